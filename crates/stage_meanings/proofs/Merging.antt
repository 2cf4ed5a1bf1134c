-- Merge on a flow.
use Rattle.std.proofs.Common.{◌≡◌, ◌+◌, Bool, true, false, cond, List, [], ◌∷◌, ◌++◌, map, None, is_some, refl, ap, sym, ◌∙◌, append_assoc, arith}
use Rattle.std.proofs.lemmas.List.{map-append, append-nil}
use Rattle.std.specs.Prelude.{◌==◌}
use Rattle.cloud_points.specs.Flows.{Flow, all_of, points}
use Rattle.cloud_points.specs.Marks.{Mark, At, View_end, End, view_marks, flow_marks}
use Rattle.cloud_points.specs.Meaning.{KeepsCutting}
use Rattle.network_theory.specs.Machine.{Machine, next, output, after_all, at_last, one_end, at_start}
use Rattle.stage_meanings.specs.Filters.{merged}
use Rattle.stage_meanings.specs.ByRule.{merge_meaning}

module _ {S P : Type 0} (F : Type 0) (s : S) where
  abbrev run : List (Mark P) → List (Mark P)
  run ms = output (merge_meaning {S = S} {P = P} {F = F}) (at_start 1 s) ms

  of_points : (v : List P) (ms : List (Mark P)) → run (map At v ++ ms) ≡ map At v ++ run ms
  of_points [] ms = refl
  of_points (p ∷ v) ms = ap (λ z. At p ∷ z) (of_points v ms)

  of_views : (vs : List (List P)) (ms : List (Mark P)) → run (view_marks vs ++ ms) ≡ map At (all_of vs) ++ run ms
  of_views [] ms = refl
  of_views (v ∷ vs) ms = ap run (append_assoc (map At v) (View_end ∷ view_marks vs) ms) ∙ of_points v (View_end ∷ (view_marks vs ++ ms))
      ∙ ap (λ z. map At v ++ z) (of_views vs ms) ∙ sym (append_assoc (map At v) (map At (all_of vs)) (run ms)) ∙ ap (λ z. z ++ run ms) (sym (map-append At v (all_of vs)))

  ending : (cut : Bool) (ps : List P) → map At ps ++ run (End cut ∷ []) ≡ flow_marks (cond cut (record { views = []; open_view = ps; cut = true }) (record { views = ps ∷ []; open_view = []; cut = false }))
  ending true ps = refl
  ending false ps = sym (append_assoc (map At ps) (View_end ∷ []) (End false ∷ [])) ∙ ap (λ z. z ++ End false ∷ []) (sym (append-nil (map At ps ++ View_end ∷ [])))

  -- what a node with merge gives for a flow
  pub merge_gives : (f : Flow P) → run (flow_marks f) ≡ flow_marks (merged f)
  merge_gives f = ap run (append_assoc (view_marks f.views) (map At f.open_view) (End f.cut ∷ []))
      ∙ of_views f.views (map At f.open_view ++ End f.cut ∷ [])
      ∙ ap (λ z. map At (all_of f.views) ++ z) (of_points f.open_view (End f.cut ∷ []))
      ∙ sym (append_assoc (map At (all_of f.views)) (map At f.open_view) (run (End f.cut ∷ [])))
      ∙ ap (λ z. z ++ run (End f.cut ∷ [])) (sym (map-append At (all_of f.views) f.open_view))
      ∙ ending f.cut (points f)

  keeps_none : (c : Machine S F) (ms : List (Mark P)) → c.fault ≡ None → (after_all merge_meaning c ms).fault ≡ None
  keeps_none c [] h = h
  keeps_none c (At p ∷ ms) h = keeps_none (next {P = P} merge_meaning c (At p)) ms (go (is_some c.fault))
    where
      go : (b : Bool) → (cond b c (record c { state = c.state; fault = None })).fault ≡ None
      go true = h
      go false = refl
  keeps_none c (View_end ∷ ms) h = keeps_none (next {P = P} merge_meaning c View_end) ms (go (is_some c.fault))
    where
      go : (b : Bool) → (cond b c (record c { state = c.state })).fault ≡ None
      go true = h
      go false = h
  keeps_none c (End cut ∷ ms) h = keeps_none (next {P = P} merge_meaning c (End cut)) ms (go (c.ended + 1 == c.inputs))
    where
      go : (b : Bool) → (cond b (at_last {P = P} merge_meaning (one_end c cut)) (one_end c cut)).fault ≡ None
      go true = h
      go false = h

  -- and it has no fault
  pub merge_faults : (f : Flow P) → (after_all (merge_meaning {S = S} {P = P} {F = F}) (at_start 1 s) (flow_marks f)).fault ≡ None
  merge_faults f = keeps_none (at_start 1 s) (flow_marks f) refl

pub merge_keeps : {S P F : Type 0} → KeepsCutting (merge_meaning {S = S} {P = P} {F = F})
merge_keeps = record {
  emits = λ s a b h. refl;
  goes_on = λ s a b h. refl;
  finds = λ s a b h. refl;
  stops_emit = λ s a b h. absurd (h refl);
  stops_after = λ s a b h. absurd (h refl);
  stops_fault = λ s a b h. absurd (h refl);
  holds_back = λ s p h. absurd (h refl);
  rests = λ s. refl;
  is_sound = λ s. refl;
  no_longer = λ s a. omega arith;
}
