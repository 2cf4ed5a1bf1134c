-- The ends of all stages, and the steps that end at them.
use Rattle.std.proofs.Common.{◌≡◌, ℕ, ◌+◌, ◌<◌, ◌==◌, Bool, true, false, cond, List, [], ◌∷◌, ◌++◌, length, map, get_or, refl, ap, sym, ◌∙◌, arith, if◌then◌else◌}
use Rattle.std.specs.Prelude.{slice_index}
use Rattle.std.specs.List.{range_with_len}
use Rattle.std.proofs.lemmas.Bool.{eq-eqb, ne_eqb}
use Rattle.std.proofs.lemmas.List.FromFn.{length-map-range_with_len, get_or-map-range_with_len}
use Rattle.stage_options.specs.declared.stage.StageSpec.{StageSpec}
use Rattle.stage_planner.specs.declared.steps.PlanStep.{PlanStep}
use Rattle.stage_planner.specs.declared.steps.PlanStep.TheVariants.{Run, Whole}
use Rattle.stage_planner.specs.Plans.{is_whole, end_of, part_by, step_at, ends}
use Rattle.stage_planner.proofs.Ranges.{filter_same, filter_more}

module _ (stages : List StageSpec) (all : List ℕ) (are : all ≡ map (end_of stages) (range_with_len 0 (length stages))) where
  pub length-ends : length all ≡ length stages
  length-ends = ap length are ∙ length-map-range_with_len (end_of stages) 0 (length stages)

  pub ends-at : (i : ℕ) → i < length stages → slice_index all i ≡ end_of stages i
  ends-at i l = ap (λ z. get_or z i 0) are ∙ get_or-map-range_with_len (end_of stages) 0 (length stages) i i 0 l (omega arith)

  parts : (i : ℕ) → part_by (slice_index all) (length all) i ≡ part_by (end_of stages) (length stages) i
  parts i = ap (λ n. part_by (slice_index all) n i) length-ends
      ∙ filter_same (λ j. slice_index all j == i) (λ j. end_of stages j == i) 0 (length stages) (λ k l m. ap (λ z. z == i) (ends-at k (omega (arith, m))))

  pub no_step : (i : ℕ) (step : List PlanStep) → i < length stages → (slice_index all i ≡ i → ⊥) → cond (end_of stages i == i) step [] ≡ []
  no_step i step l n = ap (λ b. cond b step []) (ne_eqb (end_of stages i) i (λ e. n (ends-at i l ∙ e)))

  pub one_step : (i : ℕ) → i < length stages → slice_index all i ≡ i → (whole : Bool) (step : PlanStep) → whole ≡ is_whole stages i
      → step ≡ (if whole then Whole i else Run (part_by (slice_index all) (length all) i)) → step ∷ [] ≡ cond (end_of stages i == i) (step_at stages i ∷ []) []
  one_step i l e whole step w s = ap (λ z. z ∷ []) (s ∙ ap (λ p. if whole then Whole i else Run p) (parts i) ∙ ap (λ b. if b then Whole i else Run (part_by (end_of stages) (length stages) i)) w)
      ∙ sym (ap (λ b. cond b (step_at stages i ∷ []) []) (eq-eqb (end_of stages i) i (sym (ends-at i l) ∙ e)))

map_push : {A B : Type 0} (f : A → B) (xs : List A) (b : Bool) (x : A) → map f (xs ++ cond b (x ∷ []) []) ≡ map f xs ++ cond b (f x ∷ []) []
map_push f [] true x = refl
map_push f [] false x = refl
map_push f (y ∷ xs) b x = ap (λ z. f y ∷ z) (map_push f xs b x)

pub steps_next : (stages : List StageSpec) (n : ℕ) (old more : List PlanStep) → old ≡ map (step_at stages) (ends stages n) → more ≡ old ++ cond (end_of stages n == n) (step_at stages n ∷ []) []
    → more ≡ map (step_at stages) (ends stages (n + 1))
steps_next stages n old more e g = g ∙ ap (λ z. z ++ cond (end_of stages n == n) (step_at stages n ∷ []) []) e
    ∙ sym (map_push (step_at stages) (ends stages n) (end_of stages n == n) n) ∙ sym (ap (map (step_at stages)) (filter_more (λ i. end_of stages i == i) n))
