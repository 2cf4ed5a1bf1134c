-- A tally's stage gives all views as they are, and the tally is shown all points that pass.
use Rattle.std.proofs.Common.{◌≡◌, ℕ, ◌+◌, ◌-◌, true, false, cond, List, [], ◌∷◌, ◌++◌, length, take, Option, Some, None, refl, ap, sym, ◌∙◌, arith}
use Rattle.std.specs.Prelude.{ℤ, Bool, Result, Ok, Err}
use Rattle.std.specs.Option.{option_map}
use Rattle.std.proofs.lemmas.List.{length-append}
use Rattle.std.proofs.lemmas.List.Elements.{filter-append}
use Rattle.std.proofs.lemmas.List.Sums.{fold-append}
use Rattle.cloud_points.specs.Flows.{Flow, all_of, points}
use Rattle.cloud_points.specs.Marks.{flow_marks}
use Rattle.cloud_points.specs.Meaning.{Meaning, KeepsCutting, Nature}
use Rattle.cloud_points.specs.Queue.{up_to_limit}
use Rattle.cloud_points.specs.declared.faults.StageFault.{StageFault}
use Rattle.network_theory.specs.Machine.{made_of, fault_on, state_after}
use Rattle.stage_meanings.specs.Filters.{reason_of, is_true, found, first_from, first_unjudged, before_stop, fault_at, told_stop}
use Rattle.stage_meanings.specs.Steps.{Steps, unless, given, reached, steps_meaning}
use Rattle.stage_meanings.proofs.StepsCut.{steps_keep}
use Rattle.stage_meanings.proofs.Streams.{within, first-append, Stops, StreamsBy, streams_give, streams_fault, views_same}
use Rattle.stage_meanings.specs.declared.reason.Reason.{Reason}
use Rattle.plug_stages.proofs.Remembering.{behind_all, flow_leaves, none_later}
use Rattle.plug_stages.proofs.Stopping.{none_before, stop_found, given_before}
use Rattle.plug_stages.specs.Keeps.{named_keeps}
use Rattle.plug_stages.specs.Tallied.{tallied}
use Rattle.plug_stages.specs.TallySteps.{passing, tally_next, tally_spot_at, tally_stage, tally_steps}
use Rattle.plug_stages.specs.declared.spots.TallySpot.{TallySpot}

spots_same : (n m k l : ℕ) (s : List ℤ) → n ≡ k → m ≡ l → tally_spot_at n m s ≡ tally_spot_at k l s
spots_same n m k l s e h = ap (λ j. tally_spot_at j m s) e ∙ ap (λ j. tally_spot_at k j s) h

one_then : (n : ℕ) → up_to_limit (up_to_limit n + 1) ≡ up_to_limit (n + 1)
one_then n = omega arith

module _ {P : Type 0} (nature : Nature P) (step : List ℤ → P → List ℤ) (only : P → Result Bool Reason) where
  abbrev st : Steps TallySpot P StageFault
  st = tally_steps step only

  abbrev stage : Meaning TallySpot P StageFault
  stage = tally_stage nature step only

  keeps : KeepsCutting stage
  keeps = named_keeps nature (steps_meaning st) (steps_keep st)

  abbrev unjudged : P → Option Reason
  unjudged p = reason_of (only p)

  -- how many points came, how many were shown, and what the tally remembers
  abbrev Past : Type 0
  Past = ℕ × ℕ × List ℤ

  abbrev start : Past → TallySpot
  start h = tally_spot_at h.0 h.1 h.2

  abbrev behind : Past → List P → Past
  behind h v = (h.0 + length v, h.1 + length (passing only v), tallied step h.2 (passing only v))

  gives-all : (n : ℕ) (s : TallySpot) (v : List P) → first_from unjudged n v ≡ None → given st s v ≡ v
  gives-all n s [] e = refl
  gives-all n s (p ∷ v) e = go (unjudged p) (gives-all (n + 1) (st.next s p) v) e
    where
      go : (o : Option Reason) → (first_from unjudged (n + 1) v ≡ None → given st (st.next s p) v ≡ v) → found n o (first_from unjudged (n + 1) v) ≡ None
          → unless (option_map (fault_at s.number) o) [] (p ∷ given st (st.next s p) v) ≡ p ∷ v
      go (Some r) ih e = absurd cc
      go None ih e = ap (λ z. p ∷ z) (ih e)

  -- those of a point and others that are shown
  abbrev shown_of : Result Bool Reason → P → List P → List P
  shown_of r p v = cond (is_true r) (p ∷ passing only v) (passing only v)

  reached-all : (n m : ℕ) (s : List ℤ) (v : List P) → first_from unjudged n v ≡ None → reached st (tally_spot_at n m s) v ≡ start (behind (n, m, s) v)
  reached-all n m s [] e = spots_same n m (n + 0) (m + 0) s (omega arith) (omega arith)
  reached-all n m s (p ∷ v) e = go (only p) (λ k t. reached-all (n + 1) k t v) e
    where
      go : (r : Result Bool Reason) → ((k : ℕ) (t : List ℤ) → first_from unjudged (n + 1) v ≡ None → reached st (tally_spot_at (n + 1) k t) v ≡ start (behind (n + 1, k, t) v))
          → found n (reason_of r) (first_from unjudged (n + 1) v) ≡ None
          → unless (option_map (fault_at (up_to_limit n)) (reason_of r)) (tally_spot_at n m s) (reached st (tally_next step (is_true r) (tally_spot_at n m s) p) v)
          ≡ tally_spot_at (n + length (p ∷ v)) (m + length (shown_of r p v)) (tallied step s (shown_of r p v))
      go (Err q) ih e = absurd cc
      go (Ok true) ih e =
          ap (λ j. reached st (record { number = j; shown = up_to_limit (up_to_limit m + 1); remembered = step s p }) v) (one_then n)
          ∙ ap (λ j. reached st (record { number = up_to_limit (n + 1); shown = j; remembered = step s p }) v) (one_then m)
          ∙ ih (m + 1) (step s p) e
          ∙ spots_same (n + 1 + length v) (m + 1 + length (passing only v)) (n + length (p ∷ v)) (m + length (p ∷ passing only v)) (tallied step (step s p) (passing only v)) (omega arith) (omega arith)
      go (Ok false) ih e =
          ap (λ j. reached st (record { number = j; shown = up_to_limit m; remembered = s }) v) (one_then n)
          ∙ ih m s e
          ∙ spots_same (n + 1 + length v) (m + length (passing only v)) (n + length (p ∷ v)) (m + length (passing only v)) (tallied step s (passing only v)) (omega arith) refl

  abbrev tally_stops : Stops Past P Reason
  tally_stops = record {
    count = λ h. h.0;
    first = λ h v. first_from unjudged h.0 v;
    behind = behind;
    counted = λ h v. refl;
    within = λ h. within unjudged h.0;
    append = λ h a b. first-append unjudged h.0 a b;
  }

  tally_streams : StreamsBy stage tally_stops told_stop start (λ v. v)
  tally_streams = record {
    fault = λ h v. stop_found unjudged st (λ s. s.number) (λ s p. refl) (λ s p. refl) h.0 (start h) v refl;
    gives = λ h v e. gives-all h.0 (start h) v e;
    stops = λ h v k r e. sym (given_before unjudged st (λ s. s.number) (λ s p. refl) (λ s p. refl) (start h) h.0 v k r e)
        ∙ gives-all h.0 (start h) (take (k - h.0) v) (none_before unjudged h.0 v k r e);
    anew = λ h v e. ap (λ s. (s, true)) (reached-all h.0 h.1 h.2 v e);
    ends = λ h v cut. refl;
  }

  pub tally_gives : (s : List ℤ) (f : Flow P) → made_of stage (tally_spot_at 0 0 s) f ≡ flow_marks (before_stop (first_unjudged only 0 (points f)) f)
  tally_gives s f = streams_give stage keeps tally_stops told_stop start (λ v. v) tally_streams (0, 0, s) refl f
      ∙ ap flow_marks (views_same (before_stop (first_unjudged only 0 (points f)) f))

  pub tally_faults : (s : List ℤ) (f : Flow P) → fault_on stage (tally_spot_at 0 0 s) f ≡ option_map told_stop (first_unjudged only 0 (points f))
  tally_faults s f = streams_fault stage keeps tally_stops told_stop start (λ v. v) tally_streams (0, 0, s) f

  abbrev past : Past → List (List P) → Past
  past h vs = behind_all stage keeps tally_stops told_stop start (λ v. v) tally_streams (λ s cut. refl) h vs

  -- behind points and then others
  behind_both : (h : Past) (a b : List P) → behind (behind h a) b ≡ behind h (a ++ b)
  behind_both h a b =
      let points_more = length-append a b in
      let shown_more = length-append (passing only a) (passing only b) in
      ap (λ j. (j, h.1 + length (passing only a) + length (passing only b), tallied step (tallied step h.2 (passing only a)) (passing only b)))
      (let z : h.0 + length a + length b ≡ h.0 + length (a ++ b) = omega (arith, points_more) in z)
      ∙ ap (λ j. (h.0 + length (a ++ b), j, tallied step (tallied step h.2 (passing only a)) (passing only b)))
      (let z : h.1 + length (passing only a) + length (passing only b) ≡ h.1 + length (passing only a ++ passing only b) = omega (arith, shown_more) in z)
      ∙ ap (λ s. (h.0 + length (a ++ b), h.1 + length (passing only a ++ passing only b), s)) (sym (fold-append step h.2 (passing only a) (passing only b)))
      ∙ ap (λ ps. (h.0 + length (a ++ b), h.1 + length ps, tallied step h.2 ps)) (sym (filter-append (λ p. is_true (only p)) a b))

  past-all : (h : Past) (vs : List (List P)) → past h vs ≡ behind h (all_of vs)
  past-all h [] = ap (λ j. (j, h.1, h.2)) (let z : h.0 ≡ h.0 + 0 = omega arith in z) ∙ ap (λ j. (h.0 + 0, j, h.2)) (let z : h.1 ≡ h.1 + 0 = omega arith in z)
  past-all h (v ∷ vs) = past-all (behind h v) vs ∙ behind_both h v (all_of vs)

  pub tally_remembers : (s : List ℤ) (f : Flow P) → first_unjudged only 0 (points f) ≡ None
      → state_after stage (tally_spot_at 0 0 s) f ≡ tally_spot_at (length (points f)) (length (passing only (points f))) (tallied step s (passing only (points f)))
  tally_remembers s f e =
      let k = behind (0, 0, s) (all_of f.views) in
      let split = sym (first-append unjudged 0 (all_of f.views) f.open_view) ∙ e in
      flow_leaves stage keeps tally_stops told_stop start (λ v. v) tally_streams (λ s cut. refl) (0, 0, s) f e
      ∙ ap (λ h. reached st (start h) f.open_view) (past-all (0, 0, s) f.views)
      ∙ reached-all k.0 k.1 k.2 f.open_view (none_later _ _ split)
      ∙ ap start (behind_both (0, 0, s) (all_of f.views) f.open_view)
      ∙ spots_same (0 + length (points f)) (0 + length (passing only (points f))) (length (points f)) (length (passing only (points f))) (tallied step s (passing only (points f))) (omega arith) (omega arith)
