-- A filter by its steps does with each view what its definition says.
use Rattle.std.proofs.Common.{◌≡◌, ℕ, suc, ◌+◌, ◌-◌, ◌≤◌, Bool, true, false, not, ◌||◌, cond, List, [], ◌∷◌, length, map, take, Option, Some, None, refl, ap, sym, ◌∙◌, arith}
use Rattle.std.specs.Prelude.{filter, Result, Ok, Err}
use Rattle.std.specs.List.{cons_option, filter_map}
use Rattle.std.specs.Option.{option_map}
use Rattle.cloud_points.specs.Events.{first_fault}
use Rattle.cloud_points.specs.Flows.{Flow}
use Rattle.cloud_points.specs.Marks.{flow_marks}
use Rattle.cloud_points.specs.Queue.{up_to_limit}
use Rattle.cloud_points.specs.declared.faults.StageFault.{StageFault}
use Rattle.network_theory.specs.Machine.{output, after_all, at_start}
use Rattle.stage_meanings.specs.declared.reason.Reason.{Reason}
use Rattle.stage_meanings.specs.declared.spot.Spot.{Spot}
use Rattle.stage_meanings.specs.Steps.{Steps, unless, given, reached, stopped}
use Rattle.stage_meanings.proofs.StepsCut.{steps_keep}
use Rattle.stage_meanings.specs.Filters.{◌>>=◌, Rule, Each, Places, keeps, at_point, reason_of, or_nothing, is_true, positions, chosen, on_view, found, first_from, why, streamed, streamed_fault, told_stop, fault_at}
use Rattle.stage_meanings.specs.ByRule.{judged_at, spot_after, steps_of, rule_meaning, spot_at}
use Rattle.stage_meanings.proofs.Streams.{number_of, within, each_stops, StreamsBy, streams_give, streams_fault}

limits : (n m : ℕ) → n ≡ up_to_limit m → up_to_limit (n + 1) ≡ up_to_limit (m + 1)
limits n m e = omega (arith, e)

-- the place of a point is no matter for whether it can be judged
judged-reason : {P : Type 0} (rule : Rule P Reason) (only : P → Result Bool Reason) (k : ℕ) (p : P) → reason_of (judged_at rule only k p) ≡ why rule only p
judged-reason (Each f) only k p = refl
judged-reason {P} (Places test) only k p = go (only p)
  where
    go : (r : Result Bool Reason) → reason_of (r >>= λ b. cond b (Ok (keeps (test k) p)) (Ok (Some p))) ≡ reason_of (r >>= λ b. cond b (Ok (Some p)) (Ok (Some p)))
    go (Ok true) = refl
    go (Ok false) = refl
    go (Err r) = refl

module _ {P : Type 0} (rule : Rule P Reason) (only : P → Result Bool Reason) where
  abbrev st : Steps Spot P StageFault
  st = steps_of rule only

  abbrev no : P → Option Reason
  no = why rule only

  abbrev behind : Spot → P → Spot
  behind s p = spot_after (is_true (only p)) s

  fault-found : (n : ℕ) (s : Spot) (v : List P) → s.number ≡ up_to_limit n → stopped st s v ≡ option_map told_stop (first_from no n v)
  fault-found n s [] e = refl
  fault-found n s (p ∷ v) e = ap (λ o. first_fault (option_map (fault_at s.number) o) (stopped st (behind s p) v)) (judged-reason rule only s.place p) ∙ go (no p) (fault-found (n + 1) (behind s p) v (limits s.number n e))
    where
      go : (o : Option Reason) → stopped st (behind s p) v ≡ option_map told_stop (first_from no (n + 1) v)
          → first_fault (option_map (fault_at s.number) o) (stopped st (behind s p) v) ≡ option_map told_stop (found n o (first_from no (n + 1) v))
      go (Some r) ih = ap (λ k. Some (fault_at k r)) e
      go None ih = ih

  number-reached : (n : ℕ) (s : Spot) (v : List P) → s.number ≡ up_to_limit n → first_from no n v ≡ None → (reached st s v).number ≡ up_to_limit (n + length v)
  number-reached n s [] e h = e ∙ ap up_to_limit (omega arith)
  number-reached n s (p ∷ v) e h = ap (λ o. (unless (option_map (fault_at s.number) o) s (reached st (behind s p) v)).number) (judged-reason rule only s.place p) ∙ go (no p) (number-reached (n + 1) (behind s p) v (limits s.number n e)) h
    where
      go : (o : Option Reason) → (first_from no (n + 1) v ≡ None → (reached st (behind s p) v).number ≡ up_to_limit (n + 1 + length v))
          → found n o (first_from no (n + 1) v) ≡ None → (unless (option_map (fault_at s.number) o) s (reached st (behind s p) v)).number ≡ up_to_limit (n + length (p ∷ v))
      go (Some r) ih h = absurd cc
      go None ih h = ih h ∙ ap up_to_limit (omega arith)

  -- the points before a stop, and no stop among them
  given-take : (s : Spot) (n : ℕ) (a : List P) (k : ℕ) (r : Reason) → first_from no n a ≡ Some (k, r) → given st s (take (k - n) a) ≡ given st s a
  given-take s n [] k r e = absurd cc
  given-take s n (p ∷ a) k r e = go (no p) refl (given-take (behind s p) (n + 1) a k r) (λ h. (within no (n + 1) a k r h).0) e
    where
      go : (o : Option Reason) → no p ≡ o → (first_from no (n + 1) a ≡ Some (k, r) → given st (behind s p) (take (k - (n + 1)) a) ≡ given st (behind s p) a)
          → (first_from no (n + 1) a ≡ Some (k, r) → n + 1 ≤ k) → found n o (first_from no (n + 1) a) ≡ Some (k, r) → given st s (take (k - n) (p ∷ a)) ≡ given st s (p ∷ a)
      go (Some q) w ih low e = let same : n ≡ k = ap number_of e in
          ap (λ z. given st s (take z (p ∷ a))) (let z : k - n ≡ 0 = omega (arith, same) in z)
          ∙ sym (ap (λ o. unless (option_map (fault_at s.number) o) [] (cons_option (or_nothing (judged_at rule only s.place p)) (given st (behind s p) a))) (judged-reason rule only s.place p ∙ w))
      go None w ih low e = let l = low e in
          ap (λ z. given st s (take z (p ∷ a))) (let z : k - n ≡ suc (k - (n + 1)) = omega (arith, l) in z)
          ∙ ap (λ z. unless (option_map (fault_at s.number) (reason_of (judged_at rule only s.place p))) [] (cons_option (or_nothing (judged_at rule only s.place p)) z)) (ih e)

  clear-take : (n : ℕ) (a : List P) (k : ℕ) (r : Reason) → first_from no n a ≡ Some (k, r) → first_from no n (take (k - n) a) ≡ None
  clear-take n [] k r e = absurd cc
  clear-take n (p ∷ a) k r e = go (no p) refl (clear-take (n + 1) a k r) (λ h. (within no (n + 1) a k r h).0) e
    where
      go : (o : Option Reason) → no p ≡ o → (first_from no (n + 1) a ≡ Some (k, r) → first_from no (n + 1) (take (k - (n + 1)) a) ≡ None)
          → (first_from no (n + 1) a ≡ Some (k, r) → n + 1 ≤ k) → found n o (first_from no (n + 1) a) ≡ Some (k, r) → first_from no n (take (k - n) (p ∷ a)) ≡ None
      go (Some q) w ih low e = let same : n ≡ k = ap number_of e in ap (λ z. first_from no n (take z (p ∷ a))) (let z : k - n ≡ 0 = omega (arith, same) in z)
      go None w ih low e = let l = low e in
          ap (λ z. first_from no n (take z (p ∷ a))) (let z : k - n ≡ suc (k - (n + 1)) = omega (arith, l) in z)
          ∙ ap (λ o. found n o (first_from no (n + 1) (take (k - (n + 1)) a))) w ∙ ih e

-- a filter that looks at each point by itself
each-gives : {P : Type 0} (f : P → Result (Option P) Reason) (only : P → Result Bool Reason) (n : ℕ) (s : Spot) (v : List P) → first_from (why (Each f) only) n v ≡ None
    → given (steps_of (Each f) only) s v ≡ filter_map (λ p. or_nothing (at_point (Each f) only p)) v
each-gives f only n s [] e = refl
each-gives {P} f only n s (p ∷ v) e = go (why (Each f) only p) (each-gives f only (n + 1) (spot_after (is_true (only p)) s) v) e
  where
    go : (o : Option Reason) → (first_from (why (Each f) only) (n + 1) v ≡ None → given (steps_of (Each f) only) (spot_after (is_true (only p)) s) v ≡ filter_map (λ p. or_nothing (at_point (Each f) only p)) v)
        → found n o (first_from (why (Each f) only) (n + 1) v) ≡ None
        → unless (option_map (fault_at s.number) o) [] (cons_option (or_nothing (at_point (Each f) only p)) (given (steps_of (Each f) only) (spot_after (is_true (only p)) s) v))
        ≡ cons_option (or_nothing (at_point (Each f) only p)) (filter_map (λ p. or_nothing (at_point (Each f) only p)) v)
    go (Some r) ih e = absurd cc
    go None ih e = ap (cons_option (or_nothing (at_point (Each f) only p))) (ih e)

-- a filter that looks at positions
module _ {P : Type 0} (test : ℕ → Bool) (only : P → Result Bool Reason) where
  abbrev passing : P → Bool
  passing p = is_true (only p)

  abbrev picked : ℕ → List P → List P
  picked k v = map (λ q. q.0) (filter (λ q. not (passing q.0) || test q.1) (positions passing k v))

  pick : (b : Bool) (p : P) (k : ℕ) (rest : List (P × ℕ)) → map (λ q. q.0) (cond b ((p, k) ∷ rest) rest) ≡ cons_option (keeps b p) (map (λ q. q.0) rest)
  pick true p k rest = refl
  pick false p k rest = refl

  -- a point that can be judged
  place-judged : (k : ℕ) (p : P) → why (Places test) only p ≡ None → or_nothing (judged_at (Places test) only k p) ≡ keeps (not (passing p) || test k) p
  place-judged k p e = go (only p) e
    where
      go : (r : Result Bool Reason) → reason_of (r >>= λ b. cond b (Ok (Some p)) (Ok (Some p))) ≡ None
          → or_nothing (r >>= λ b. cond b (Ok (keeps (test k) p)) (Ok (Some p))) ≡ keeps (not (is_true r) || test k) p
      go (Ok true) e = refl
      go (Ok false) e = refl
      go (Err r) e = absurd cc

  places-give : (n : ℕ) (s : Spot) (v : List P) → first_from (why (Places test) only) n v ≡ None → given (steps_of (Places test) only) s v ≡ chosen passing test s.place v
  places-give n s [] e = refl
  places-give n s (p ∷ v) e = go (why (Places test) only p) refl (places-give (n + 1) (spot_after (passing p) s) v) e
    where
      go : (o : Option Reason) → why (Places test) only p ≡ o → (first_from (why (Places test) only) (n + 1) v ≡ None → given (steps_of (Places test) only) (spot_after (passing p) s) v ≡ chosen passing test (spot_after (passing p) s).place v)
          → found n o (first_from (why (Places test) only) (n + 1) v) ≡ None → given (steps_of (Places test) only) s (p ∷ v) ≡ chosen passing test s.place (p ∷ v)
      go (Some r) w ih e = absurd cc
      go None w ih e =
          ap (λ o. unless (option_map (fault_at s.number) o) [] (cons_option (or_nothing (judged_at (Places test) only s.place p)) (given (steps_of (Places test) only) (spot_after (passing p) s) v))) (judged-reason (Places test) only s.place p ∙ w)
          ∙ ap (λ o. cons_option o (given (steps_of (Places test) only) (spot_after (passing p) s) v)) (place-judged s.place p w)
          ∙ ap (cons_option (keeps (not (passing p) || test s.place) p)) (ih e)
          ∙ sym (pick (not (passing p) || test s.place) p s.place (filter (λ q. not (passing q.0) || test q.1) (positions passing (spot_after (passing p) s).place v)))

pub view-given : {P : Type 0} (rule : Rule P Reason) (only : P → Result Bool Reason) (n m : ℕ) (v : List P) → first_from (why rule only) n v ≡ None
    → given (steps_of rule only) (spot_at m) v ≡ on_view rule only v
view-given (Each f) only n m v e = each-gives f only n (spot_at m) v e
view-given (Places test) only n m v e = places-give test only n (spot_at m) v e

module _ {P : Type 0} (rule : Rule P Reason) (only : P → Result Bool Reason) where
  pub rule_streams : StreamsBy (rule_meaning rule only) (each_stops (why rule only)) told_stop spot_at (on_view rule only)
  rule_streams = record {
    fault = λ n v. fault-found rule only n (spot_at n) v refl;
    gives = λ n v e. view-given rule only n n v e;
    stops = λ n v k r e. sym (given-take rule only (spot_at n) n v k r e) ∙ view-given rule only n n (take (k - n) v) (clear-take rule only n v k r e);
    anew = λ n v e. ap (λ k. (record { number = k; place = 0 }, true)) (number-reached rule only n (spot_at n) v refl e);
    ends = λ n v cut. refl;
  }

  -- what a node with this filter gives for a flow, and its fault
  pub filter_gives : (f : Flow P) → output (rule_meaning rule only) (at_start 1 (spot_at 0)) (flow_marks f) ≡ flow_marks (streamed rule only f)
  filter_gives f = streams_give (rule_meaning rule only) (steps_keep (steps_of rule only)) (each_stops (why rule only)) told_stop spot_at (on_view rule only) rule_streams 0 refl f

  pub filter_faults : (f : Flow P) → (after_all (rule_meaning rule only) (at_start 1 (spot_at 0)) (flow_marks f)).fault ≡ streamed_fault rule only f
  filter_faults f = streams_fault (rule_meaning rule only) (steps_keep (steps_of rule only)) (each_stops (why rule only)) told_stop spot_at (on_view rule only) rule_streams 0 f
