-- A filter that admits points by how many passed before them: what it does with a chunk and with a flow.
use Rattle.std.proofs.Common.{◌≡◌, ℕ, suc, ◌+◌, ◌-◌, ◌<◌, ◌≤◌, Bool, true, false, cond, List, [], ◌∷◌, ◌++◌, length, take, Option, Some, None, is_some, refl, ap, sym, ◌∙◌, arith}
use Rattle.std.specs.Prelude.{filter, Result}
use Rattle.std.specs.Option.{option_map}
use Rattle.cloud_points.specs.Events.{first_fault}
use Rattle.cloud_points.specs.Flows.{Flow, points}
use Rattle.cloud_points.specs.Marks.{flow_marks}
use Rattle.cloud_points.specs.Queue.{up_to_limit}
use Rattle.cloud_points.specs.declared.faults.StageFault.{StageFault}
use Rattle.network_theory.specs.Machine.{output, after_all, at_start}
use Rattle.stage_meanings.specs.declared.reason.Reason.{Reason}
use Rattle.stage_meanings.specs.declared.spot.Spot.{Spot}
use Rattle.stage_meanings.specs.Filters.{is_true, positions, found, first_from, points_before, refused_by, first_refused, refusal_of, admitted, fault_at, told_stop}
use Rattle.stage_meanings.specs.ByRule.{IsWithin, spot_at, spot_after, spot_past, admitting_steps, admitting_meaning}
use Rattle.stage_meanings.proofs.Spots.{after_within, same_spot, one_then, count}
use Rattle.stage_meanings.specs.Steps.{Steps, unless, given, reached, stopped}
use Rattle.stage_meanings.proofs.StepsCut.{steps_keep}
use Rattle.stage_meanings.proofs.Streams.{number_of, within, first-append, Stops, StreamsBy, streams_give, streams_fault, views_same}
use Rattle.stage_meanings.specs.Admitting.{points_from, told_behind}

module _ {P R : Type 0} where
  pub points_more : (n : ℕ) (p : P) (ps : List P) (o : Option (ℕ × R)) → ((k : ℕ) (r : R) → o ≡ Some (k, r) → n + 1 ≤ k) → points_from n o (p ∷ ps) ≡ p ∷ points_from (n + 1) o ps
  points_more n p ps None low = refl
  points_more n p ps (Some s) low = let l = low s.0 s.1 refl in ap (λ k. take k (p ∷ ps)) (let z : s.0 - n ≡ suc (s.0 - (n + 1)) = omega (arith, l) in z)

  pub points_none : (n : ℕ) (r : R) (ps : List P) → points_from n (Some (n, r)) ps ≡ []
  points_none n r ps = ap (λ k. take k ps) (let z : n - n ≡ 0 = omega arith in z) ∙ none ps
    where
      none : (ps : List P) → take 0 ps ≡ []
      none [] = refl
      none (p ∷ ps) = refl

  pub points_zero : (o : Option (ℕ × R)) (ps : List P) → points_from 0 o ps ≡ points_before o ps
  points_zero None ps = refl
  points_zero (Some s) ps = ap (λ k. take k ps) (let z : s.0 - 0 ≡ s.0 = omega arith in z)

module _ {P R : Type 0} (against : ℕ → P → Option R) (only : P → Result Bool R) where
  abbrev passing : P → Bool
  passing p = is_true (only p)

  abbrev passed : List P → ℕ
  passed ps = length (filter passing ps)

  abbrev refused : P × ℕ → Option R
  refused q = refused_by against only q

  abbrev stop_from : ℕ → ℕ → List P → Option (ℕ × R)
  stop_from n k ps = first_refused against only n k ps

  positions_as_many : (k : ℕ) (ps : List P) → length (positions passing k ps) ≡ length ps
  positions_as_many k [] = refl
  positions_as_many k (p ∷ ps) = ap suc (positions_as_many (cond (passing p) (up_to_limit (k + 1)) k) ps)

  pub refused_within : (n k : ℕ) (ps : List P) (at : ℕ) (r : R) → stop_from n k ps ≡ Some (at, r) → (n ≤ at) × (at < n + length ps)
  refused_within n k ps at r e = let so = within refused n (positions passing k ps) at r e in
      let low = so.0 in let high = so.1 in (low, omega (arith, high, positions_as_many k ps))

  one_place : (b : Bool) (k : ℕ) (more : ℕ) → cond b (up_to_limit (up_to_limit k + 1)) (up_to_limit k) ≡ up_to_limit (cond b (k + 1) k)
  one_place true k more = omega arith
  one_place false k more = refl

  places_meet : (b : Bool) (k more : ℕ) → up_to_limit (cond b (k + 1) k + more) ≡ up_to_limit (k + cond b (more + 1) more)
  places_meet true k more = ap up_to_limit (omega arith)
  places_meet false k more = refl

  positions-append : (k : ℕ) (a b : List P) → positions passing (up_to_limit k) (a ++ b) ≡ positions passing (up_to_limit k) a ++ positions passing (up_to_limit (k + passed a)) b
  positions-append k [] b = ap (λ j. positions passing (up_to_limit j) b) (omega arith)
  positions-append k (p ∷ a) b =
      ap (λ z. (p, up_to_limit k) ∷ z)
      (ap (λ j. positions passing j (a ++ b)) (one_place (passing p) k 0) ∙ positions-append (cond (passing p) (k + 1) k) a b
      ∙ ap (λ j. positions passing j a ++ positions passing (up_to_limit (cond (passing p) (k + 1) k + passed a)) b) (sym (one_place (passing p) k 0))
      ∙ ap (λ j. positions passing (cond (passing p) (up_to_limit (up_to_limit k + 1)) (up_to_limit k)) a ++ positions passing j b)
      (places_meet (passing p) k (passed a) ∙ ap (λ j. up_to_limit (k + j)) (sym (count (passing p) p (filter passing a)))))

  pub refused_append : (n k : ℕ) (a b : List P) → stop_from n (up_to_limit k) (a ++ b) ≡ first_fault (stop_from n (up_to_limit k) a) (stop_from (n + length a) (up_to_limit (k + passed a)) b)
  refused_append n k a b = ap (first_from refused n) (positions-append k a b)
      ∙ first-append refused n (positions passing (up_to_limit k) a) (positions passing (up_to_limit (k + passed a)) b)
      ∙ ap (λ j. first_fault (stop_from n (up_to_limit k) a) (first_from refused (n + j) (positions passing (up_to_limit (k + passed a)) b))) (positions_as_many (up_to_limit k) a)

  -- before the first that is refused none is
  before_refused : (n k : ℕ) (ps : List P) (at : ℕ) (r : R) → stop_from n k ps ≡ Some (at, r) → stop_from n k (take (at - n) ps) ≡ None
  before_refused n k [] at r e = absurd cc
  before_refused n k (p ∷ ps) at r e = go (refused (p, k)) refl (before_refused (n + 1) next ps at r) (λ h. (refused_within (n + 1) next ps at r h).0) e
    where
      next : ℕ
      next = cond (passing p) (up_to_limit (k + 1)) k

      go : (o : Option R) → refused (p, k) ≡ o → (stop_from (n + 1) (cond (passing p) (up_to_limit (k + 1)) k) ps ≡ Some (at, r) → stop_from (n + 1) (cond (passing p) (up_to_limit (k + 1)) k) (take (at - (n + 1)) ps) ≡ None)
          → (stop_from (n + 1) (cond (passing p) (up_to_limit (k + 1)) k) ps ≡ Some (at, r) → n + 1 ≤ at)
          → found n o (stop_from (n + 1) (cond (passing p) (up_to_limit (k + 1)) k) ps) ≡ Some (at, r) → stop_from n k (take (at - n) (p ∷ ps)) ≡ None
      go (Some q) w ih low e = let same : n ≡ at = ap number_of e in ap (λ z. stop_from n k (take z (p ∷ ps))) (let z : at - n ≡ 0 = omega (arith, same) in z)
      go None w ih low e = let l = low e in
          ap (λ z. stop_from n k (take z (p ∷ ps))) (let z : at - n ≡ suc (at - (n + 1)) = omega (arith, l) in z)
          ∙ ap (λ o. found n o (stop_from (n + 1) (cond (passing p) (up_to_limit (k + 1)) k) (take (at - (n + 1)) ps))) w ∙ ih e

  pub none_before : (k : ℕ) (ps : List P) (at : ℕ) (r : R) → stop_from 0 k ps ≡ Some (at, r) → stop_from 0 k (take at ps) ≡ None
  none_before k ps at r e = ap (λ i. stop_from 0 k (take i ps)) (let z : at ≡ at - 0 = omega arith in z) ∙ before_refused 0 k ps at r e

  -- whether one is refused is no matter of the number from which they are counted
  pub refused_anyhow : (n m k : ℕ) (ps : List P) → is_some (stop_from n k ps) ≡ is_some (stop_from m k ps)
  refused_anyhow n m k [] = refl
  refused_anyhow n m k (p ∷ ps) = go (refused (p, k)) (refused_anyhow (n + 1) (m + 1) (cond (passing p) (up_to_limit (k + 1)) k) ps)
    where
      go : (o : Option R) → is_some (stop_from (n + 1) (cond (passing p) (up_to_limit (k + 1)) k) ps) ≡ is_some (stop_from (m + 1) (cond (passing p) (up_to_limit (k + 1)) k) ps)
          → is_some (found n o (stop_from (n + 1) (cond (passing p) (up_to_limit (k + 1)) k) ps)) ≡ is_some (found m o (stop_from (m + 1) (cond (passing p) (up_to_limit (k + 1)) k) ps))
      go (Some r) ih = refl
      go None ih = ih

  -- how many points stand before others, and how many of these passed
  abbrev pub admitting_stops : Stops (ℕ × ℕ) P R
  admitting_stops = record {
    count = λ h. h.0;
    first = λ h ps. stop_from h.0 (up_to_limit h.1) ps;
    behind = λ h ps. (h.0 + length ps, h.1 + passed ps);
    counted = λ h ps. refl;
    within = λ h ps. refused_within h.0 (up_to_limit h.1) ps;
    append = λ h a b. refused_append h.0 h.1 a b;
  }

-- ---- what it does

module _ {P : Type 0} (against : ℕ → P → Option Reason) (only : P → Result Bool Reason) where
  abbrev st : Steps Spot P StageFault
  st = admitting_steps against only

  abbrev passes_it : P → Bool
  passes_it p = is_true (only p)

  abbrev stop_at : ℕ → Spot → List P → Option (ℕ × Reason)
  stop_at n s ps = first_refused against only n s.place ps

  abbrev behind : Spot → P → Spot
  behind s p = spot_after (passes_it p) s

  -- from a spot on it gives the points before the first that it doesn't admit, and stands there
  record AdmitsFrom (base n : ℕ) (s : Spot) (ps : List P) (o : Option (ℕ × Reason)) : Type 0 where
    gives : given st s ps ≡ points_from n o ps
    reaches : reached st s ps ≡ spot_past (length (points_from n o ps)) (length (filter passes_it (points_from n o ps))) s
    stops : stopped st s ps ≡ option_map (told_behind base) o

  stays : (s : Spot) → IsWithin s → s ≡ spot_past 0 0 s
  stays s h = same_spot _ _ _ _ (let a = h.number in omega (arith, a)) (let a = h.place in omega (arith, a))

  next_number : (base n number : ℕ) → number ≡ up_to_limit (base + n) → up_to_limit (number + 1) ≡ up_to_limit (base + (n + 1))
  next_number base n number e = omega (arith, e)

  admits_from : (base n : ℕ) (s : Spot) (ps : List P) → IsWithin s → s.number ≡ up_to_limit (base + n) → AdmitsFrom base n s ps (stop_at n s ps)
  admits_from base n s [] h e = record { gives = refl; reaches = stays s h; stops = refl }
  admits_from base n s (p ∷ ps) h e =
      go (refused_by against only (p, s.place)) refl (admits_from base (n + 1) (behind s p) ps (after_within (passes_it p) s h) (next_number base n s.number e))
    where
      go : (o : Option Reason) → refused_by against only (p, s.place) ≡ o → AdmitsFrom base (n + 1) (behind s p) ps (stop_at (n + 1) (behind s p) ps) → AdmitsFrom base n s (p ∷ ps) (found n o (stop_at (n + 1) (behind s p) ps))
      go (Some r) w ih = record {
        gives = ap (λ o. unless (option_map (fault_at s.number) o) [] (p ∷ given st (behind s p) ps)) w ∙ sym (points_none n r (p ∷ ps));
        reaches = ap (λ o. unless (option_map (fault_at s.number) o) s (reached st (behind s p) ps)) w
            ∙ stays s h ∙ ap (λ qs. spot_past (length qs) (length (filter passes_it qs)) s) (sym (points_none n r (p ∷ ps)));
        stops = ap (λ o. first_fault (option_map (fault_at s.number) o) (stopped st (behind s p) ps)) w ∙ ap (λ k. Some (fault_at k r)) e;
      }
      go None w ih =
          let o : Option (ℕ × Reason) = stop_at (n + 1) (behind s p) ps in
          let more : points_from n o (p ∷ ps) ≡ p ∷ points_from (n + 1) o ps = points_more n p ps o (λ k r is. (refused_within against only (n + 1) (behind s p).place ps k r is).0) in
          record {
            gives = ap (λ o. unless (option_map (fault_at s.number) o) [] (p ∷ given st (behind s p) ps)) w ∙ ap (λ z. p ∷ z) ih.gives ∙ sym more;
            reaches = ap (λ o. unless (option_map (fault_at s.number) o) s (reached st (behind s p) ps)) w
                ∙ ih.reaches ∙ one_then (passes_it p) (length (points_from (n + 1) o ps)) (length (filter passes_it (points_from (n + 1) o ps))) s
                ∙ same_spot _ _ _ _ (omega arith) (ap (λ k. up_to_limit (s.place + k)) (sym (count (passes_it p) p (filter passes_it (points_from (n + 1) o ps)))))
                ∙ ap (λ qs. spot_past (length qs) (length (filter passes_it qs)) s) (sym more);
            stops = ap (λ o. first_fault (option_map (fault_at s.number) o) (stopped st (behind s p) ps)) w ∙ ih.stops;
          }

  -- the same of a chunk
  pub record Admits (s : Spot) (ps : List P) : Type 0 where
    pub gives : given st s ps ≡ points_before (stop_at 0 s ps) ps
    pub reaches : reached st s ps ≡ spot_past (length (points_before (stop_at 0 s ps) ps)) (length (filter passes_it (points_before (stop_at 0 s ps) ps))) s
    pub stops : stopped st s ps ≡ option_map (told_behind s.number) (stop_at 0 s ps)

  pub admits : (s : Spot) (ps : List P) → IsWithin s → Admits s ps
  admits s ps h =
      let so = admits_from s.number 0 s ps h (let a = h.number in omega (arith, a)) in
      let same = points_zero (stop_at 0 s ps) ps in
      record {
        gives = so.gives ∙ same;
        reaches = so.reaches ∙ ap (λ qs. spot_past (length qs) (length (filter passes_it qs)) s) same;
        stops = so.stops;
      }

  -- ---- a flow

  abbrev pub spot_behind : ℕ × ℕ → Spot
  spot_behind h = record { number = up_to_limit h.0; place = up_to_limit h.1 }

  behind_within : (h : ℕ × ℕ) → IsWithin (spot_behind h)
  behind_within h = record { number = omega arith; place = omega arith }

  from_there : (h : ℕ × ℕ) (ps : List P) → AdmitsFrom 0 h.0 (spot_behind h) ps (stop_at h.0 (spot_behind h) ps)
  from_there h ps = admits_from 0 h.0 (spot_behind h) ps (behind_within h) (ap up_to_limit (omega arith))

  told_same : (o : Option (ℕ × Reason)) → option_map (told_behind 0) o ≡ option_map told_stop o
  told_same None = refl
  told_same (Some s) = ap (λ k. Some (fault_at (up_to_limit k) s.1)) (let z : 0 + s.0 ≡ s.0 = omega arith in z)

  pub admitting_streams : StreamsBy (admitting_meaning against only) (admitting_stops against only) told_stop spot_behind (λ v. v)
  admitting_streams = record {
    fault = λ h v. (from_there h v).stops ∙ told_same (stop_at h.0 (spot_behind h) v);
    gives = λ h v e. (from_there h v).gives ∙ ap (λ o. points_from h.0 o v) e;
    stops = λ h v k r e. (from_there h v).gives ∙ ap (λ o. points_from h.0 o v) e;
    anew = λ h v e. ap (λ t. (t, true)) ((from_there h v).reaches ∙ ap (λ o. spot_past (length (points_from h.0 o v)) (length (filter passes_it (points_from h.0 o v))) (spot_behind h)) e
        ∙ same_spot _ _ _ _ (omega arith) (omega arith));
    ends = λ h v cut. refl;
  }

  -- what a node with this filter gives for a flow, and its fault
  pub admitting_gives : (f : Flow P) → output (admitting_meaning against only) (at_start 1 (spot_at 0)) (flow_marks f) ≡ flow_marks (admitted against only f)
  admitting_gives f = streams_give (admitting_meaning against only) (steps_keep st) (admitting_stops against only) told_stop spot_behind (λ v. v) admitting_streams (0, 0) refl f
      ∙ ap flow_marks (views_same (admitted against only f))

  pub admitting_faults : (f : Flow P) → (after_all (admitting_meaning against only) (at_start 1 (spot_at 0)) (flow_marks f)).fault ≡ option_map told_stop (refusal_of against only f)
  admitting_faults f = streams_fault (admitting_meaning against only) (steps_keep st) (admitting_stops against only) told_stop spot_behind (λ v. v) admitting_streams (0, 0) f
