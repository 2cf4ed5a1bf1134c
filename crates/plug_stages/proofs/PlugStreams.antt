-- A plug's stage does with each view what its fold says.
use Rattle.std.proofs.Common.{◌≡◌, ℕ, ◌+◌, ◌-◌, true, false, List, [], ◌∷◌, ◌++◌, length, map, take, Option, Some, None, refl, ap, sym, ◌∙◌, arith}
use Rattle.std.specs.Prelude.{ℤ, Bool, Result, fold, if◌then◌else◌}
use Rattle.std.specs.List.{cons_option}
use Rattle.std.specs.Option.{option_map}
use Rattle.std.proofs.lemmas.List.{length-append, append-nil}
use Rattle.std.proofs.lemmas.Option.{none-some, same_Some}
use Rattle.cloud_points.specs.Flows.{Flow, all_of, points, map_views}
use Rattle.cloud_points.specs.Marks.{flow_marks}
use Rattle.cloud_points.specs.Meaning.{Meaning, KeepsCutting, Nature}
use Rattle.cloud_points.specs.Queue.{up_to_limit}
use Rattle.cloud_points.specs.declared.faults.StageFault.{StageFault}
use Rattle.network_theory.specs.Machine.{made_of, fault_on, state_after}
use Rattle.stage_meanings.specs.Filters.{is_true, reason_of, found, first_from, first_unjudged, before_stop, fault_at, told_stop}
use Rattle.stage_meanings.specs.Steps.{Steps, unless, given, reached, steps_meaning}
use Rattle.stage_meanings.proofs.StepsCut.{steps_keep}
use Rattle.stage_meanings.proofs.Streams.{within, first-append, Stops, StreamsBy, streams_give, streams_fault}
use Rattle.stage_meanings.specs.declared.reason.Reason.{Reason}
use Rattle.plug_stages.proofs.Remembering.{behind_all, flow_leaves, none_later}
use Rattle.plug_stages.proofs.Stopping.{none_before, stop_found, given_before}
use Rattle.plug_stages.specs.Folds.{Step, last_view, shown_if, state_behind, plug_fold, step_where, state_past}
use Rattle.plug_stages.specs.Keeps.{named_keeps}
use Rattle.plug_stages.specs.PlugSteps.{remembered_at, plug_steps, plug_spot_at, plug_stage, all_pass}
use Rattle.plug_stages.specs.TallySteps.{passing}
use Rattle.plug_stages.specs.declared.spots.PlugSpot.{PlugSpot}

module _ {P : Type 0} (nature : Nature P) (opening : List ℤ) (step : Step P) (clear : P → P) (only : P → Result Bool Reason) where
  abbrev st : Steps PlugSpot P StageFault
  st = plug_steps opening step clear only

  abbrev staged : Step P
  staged = step_where only clear step

  abbrev stage : Meaning PlugSpot P StageFault
  stage = plug_stage nature opening step clear only

  keeps : KeepsCutting stage
  keeps = named_keeps nature (steps_meaning st) (steps_keep st)

  abbrev unjudged : P → Option Reason
  unjudged p = reason_of (only p)

  abbrev now : PlugSpot → List ℤ
  now s = remembered_at opening s

  abbrev start : ℕ × List ℤ → PlugSpot
  start h = plug_spot_at h.0 h.1

  gives-fold : (n : ℕ) (s : PlugSpot) (v : List P) → first_from unjudged n v ≡ None → given st s v ≡ plug_fold staged (now s) v
  gives-fold n s [] e = refl
  gives-fold n s (p ∷ v) e = go (unjudged p) (gives-fold (n + 1) (st.next s p) v) e
    where
      go : (o : Option Reason) → (first_from unjudged (n + 1) v ≡ None → given st (st.next s p) v ≡ plug_fold staged (now (st.next s p)) v)
          → found n o (first_from unjudged (n + 1) v) ≡ None
          → unless (option_map (fault_at s.number) o) [] (cons_option (st.becomes s p) (given st (st.next s p) v)) ≡ cons_option (st.becomes s p) (plug_fold staged (now (st.next s p)) v)
      go (Some r) ih e = absurd cc
      go None ih e = ap (cons_option (st.becomes s p)) (ih e)

  anew-fold : (n : ℕ) (s : PlugSpot) (v : List P) → s.number ≡ up_to_limit n → first_from unjudged n v ≡ None → st.anew (reached st s v) ≡ plug_spot_at (n + length v) (state_behind staged (now s) v)
  anew-fold n s [] e h = ap (λ (k : ℕ). record { number = k; begun = false; remembered = now s }) (let z : s.number ≡ up_to_limit (n + 0) = omega (arith, e) in z)
  anew-fold n s (p ∷ v) e h = go (unjudged p) (anew-fold (n + 1) (st.next s p) v (let z : up_to_limit (s.number + 1) ≡ up_to_limit (n + 1) = omega (arith, e) in z)) h
    where
      go : (o : Option Reason) → (first_from unjudged (n + 1) v ≡ None → st.anew (reached st (st.next s p) v) ≡ plug_spot_at (n + 1 + length v) (state_behind staged (now (st.next s p)) v))
          → found n o (first_from unjudged (n + 1) v) ≡ None
          → st.anew (unless (option_map (fault_at s.number) o) s (reached st (st.next s p) v)) ≡ plug_spot_at (n + length (p ∷ v)) (state_behind staged (now s) (p ∷ v))
      go (Some r) ih h = absurd cc
      go None ih h = ih h ∙ ap (λ k. plug_spot_at k (state_behind staged (now (st.next s p)) v)) (let z : n + 1 + length v ≡ n + length (p ∷ v) = omega arith in z)

  -- where the next stop is, and what the plug remembers behind a view
  abbrev plug_stops : Stops (ℕ × List ℤ) P Reason
  plug_stops = record {
    count = λ h. h.0;
    first = λ h v. first_from unjudged h.0 v;
    behind = λ h v. (h.0 + length v, state_behind staged opening v);
    counted = λ h v. refl;
    within = λ h. within unjudged h.0;
    append = λ h a b. first-append unjudged h.0 a b;
  }

  plug_streams : StreamsBy stage plug_stops told_stop start (plug_fold staged opening)
  plug_streams = record {
    fault = λ h v. stop_found unjudged st (λ s. s.number) (λ s p. refl) (λ s p. refl) h.0 (start h) v refl;
    gives = λ h v e. gives-fold h.0 (start h) v e;
    stops = λ h v k r e. sym (given_before unjudged st (λ s. s.number) (λ s p. refl) (λ s p. refl) (start h) h.0 v k r e)
        ∙ gives-fold h.0 (start h) (take (k - h.0) v) (none_before unjudged h.0 v k r e);
    anew = λ h v e. ap (λ s. (s, true)) (anew-fold h.0 (start h) v refl e);
    ends = λ h v cut. refl;
  }

  pub plug_gives : (s : List ℤ) (f : Flow P) → made_of stage (plug_spot_at 0 s) f ≡ flow_marks (map_views (plug_fold staged opening) (before_stop (first_unjudged only 0 (points f)) f))
  plug_gives s f = streams_give stage keeps plug_stops told_stop start (plug_fold staged opening) plug_streams (0, s) refl f

  pub plug_faults : (s : List ℤ) (f : Flow P) → fault_on stage (plug_spot_at 0 s) f ≡ option_map told_stop (first_unjudged only 0 (points f))
  plug_faults s f = streams_fault stage keeps plug_stops told_stop start (plug_fold staged opening) plug_streams (0, s) f

  abbrev past : ℕ × List ℤ → List (List P) → ℕ × List ℤ
  past h vs = behind_all stage keeps plug_stops told_stop start (plug_fold staged opening) plug_streams (λ s cut. refl) h vs

  past-all : (n : ℕ) (s : List ℤ) (vs : List (List P)) → past (n, s) vs ≡ (n + length (all_of vs), state_past staged opening s vs)
  past-all n s [] = ap (λ k. (k, s)) (let z : n ≡ n + 0 = omega arith in z)
  past-all n s (v ∷ vs) = past-all (n + length v) (state_behind staged opening v) vs
      ∙ ap (λ k. (k, state_past staged opening s (v ∷ vs))) (let e = length-append v (all_of vs) in let z : n + length v + length (all_of vs) ≡ n + length (all_of (v ∷ vs)) = omega (arith, e) in z)

  pub plug_remembers : (s : List ℤ) (f : Flow P) → f.open_view ≡ [] → first_unjudged only 0 (points f) ≡ None
      → state_after stage (plug_spot_at 0 s) f ≡ plug_spot_at (length (points f)) (state_past staged opening s f.views)
  plug_remembers s f closed e =
      flow_leaves stage keeps plug_stops told_stop start (plug_fold staged opening) plug_streams (λ s cut. refl) (0, s) f e
      ∙ ap (reached st (start (past (0, s) f.views))) closed
      ∙ ap start (past-all 0 s f.views)
      ∙ ap (λ k. plug_spot_at k (state_past staged opening s f.views)) (let z : 0 + length (all_of f.views) ≡ length (all_of f.views) = omega arith in z
      ∙ ap length (sym (append-nil (all_of f.views)) ∙ ap (λ o. all_of f.views ++ o) (sym closed)))

  -- a view that has begun goes on
  begun-stays : (s : PlugSpot) (v : List P) → s.begun ≡ true → (reached st s v).begun ≡ true
  begun-stays s [] e = e
  begun-stays s (p ∷ v) e = go (unjudged p) (begun-stays (st.next s p) v refl)
    where
      go : (o : Option Reason) → (reached st (st.next s p) v).begun ≡ true → (unless (option_map (fault_at s.number) o) s (reached st (st.next s p) v)).begun ≡ true
      go (Some r) later = e
      go None later = later

  begun-then : (n : ℕ) (s : PlugSpot) (p : P) (v : List P) → first_from unjudged n (p ∷ v) ≡ None → (reached st s (p ∷ v)).begun ≡ true
  begun-then n s p v e = go (unjudged p) e
    where
      go : (o : Option Reason) → found n o (first_from unjudged (n + 1) v) ≡ None → (unless (option_map (fault_at s.number) o) s (reached st (st.next s p) v)).begun ≡ true
      go (Some r) e = absurd cc
      go None e = begun-stays (st.next s p) v refl

  -- of its points those count that pass
  only-passing : (s : List ℤ) (v : List P) → state_behind staged s v ≡ state_behind step s (passing only v)
  only-passing s [] = refl
  only-passing s (p ∷ v) = go (is_true (only p)) (only-passing (step s p).0 v) (only-passing s v)
    where
      go : (b : Bool) → state_behind staged (step s p).0 v ≡ state_behind step (step s p).0 (passing only v) → state_behind staged s v ≡ state_behind step s (passing only v)
          → state_behind staged (shown_if b clear step s p).0 v ≡ state_behind step s (if b then p ∷ passing only v else passing only v)
      go true shown other = shown
      go false shown other = other

  past-last : (v : List P) (o : Option (List P)) (s : List ℤ) (vs : List (List P)) → ((w : List P) → o ≡ Some w → s ≡ state_behind staged opening w)
      → fold (λ _ view. Some view) o vs ≡ Some v → state_past staged opening s vs ≡ state_behind staged opening v
  past-last v o s [] same e = same v e
  past-last v o s (w ∷ vs) same e = past-last v (Some w) (state_behind staged opening w) vs (λ u is. ap (state_behind staged opening) (same_Some _ _ is)) e

  -- behind views and an open one
  past-open : (n : ℕ) (s : List ℤ) (vs : List (List P)) (last v : List P) → first_from unjudged n last ≡ None → last_view vs last ≡ Some v
      → (reached st (plug_spot_at n (state_past staged opening s vs)) last).remembered ≡ state_behind staged opening v
  past-open n s vs [] v e is = past-last v None s vs (λ w none. absurd (none-some w none)) is
  past-open n s vs (p ∷ ps) v e is =
      let at = plug_spot_at n (state_past staged opening s vs) in
      let behind = reached st at (p ∷ ps) in
      let begun : behind.begun ≡ true = begun-then n at p ps e in
      sym (ap (λ b. if b then behind.remembered else opening) begun)
      ∙ ap (λ (t : PlugSpot). t.remembered) (anew-fold n at (p ∷ ps) refl e)
      ∙ ap (state_behind staged opening) (same_Some _ _ is)

  -- what the plug remembers behind a flow that has a view, the last of which may be open
  pub plug_leaves : (s : List ℤ) (f : Flow P) (v : List P) → first_unjudged only 0 (points f) ≡ None → last_view f.views f.open_view ≡ Some v
      → (state_after stage (plug_spot_at 0 s) f).remembered ≡ state_behind step opening (passing only v)
  plug_leaves s f v e is =
      ap (λ (t : PlugSpot). t.remembered) (flow_leaves stage keeps plug_stops told_stop start (plug_fold staged opening) plug_streams (λ s cut. refl) (0, s) f e)
      ∙ ap (λ h. (reached st (start h) f.open_view).remembered) (past-all 0 s f.views)
      ∙ past-open (0 + length (all_of f.views)) s f.views f.open_view v
      (none_later _ _ (sym (plug_stops.append (0, s) (all_of f.views) f.open_view) ∙ e)) is
      ∙ only-passing opening v

-- without a `where` each point passes, and what goes on is the fold, cleared
pub fold_all : {P : Type 0} (step : Step P) (clear : P → P) (s : List ℤ) (v : List P) → plug_fold (step_where all_pass clear step) s v ≡ map clear (plug_fold step s v)
fold_all step clear s [] = refl
fold_all {P} step clear s (p ∷ v) = go (step s p).1 (fold_all step clear (step s p).0 v)
  where
    go : (o : Option P) → plug_fold (step_where all_pass clear step) (step s p).0 v ≡ map clear (plug_fold step (step s p).0 v)
        → cons_option (option_map clear o) (plug_fold (step_where all_pass clear step) (step s p).0 v) ≡ map clear (cons_option o (plug_fold step (step s p).0 v))
    go None ih = ih
    go (Some q) ih = ap (λ z. clear q ∷ z) ih
