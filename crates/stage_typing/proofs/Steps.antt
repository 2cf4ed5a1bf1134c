-- One stage more is typed.
use Rattle.std.proofs.Common.{ℕ, ◌≡◌, ◌<◌, ◌+◌, ◌∙◌, ◌++◌, List, [], ◌∷◌, length, drop, get_or, None, refl, ap}
use Rattle.std.proofs.lemmas.List.{append_assoc}
use Rattle.pipeline_json.specs.Shown.{stage_view, stages_view}
use Rattle.pipeline_json.specs.declared.stage.RawStage.{RawStage}
use Rattle.stage_typing.proofs.Elements.{drop_next}
use Rattle.stage_names.specs.Faults.{or_else}
use Rattle.stage_options.specs.declared.stage.StageSpec.{StageSpec}
use Rattle.stage_typing.specs.TypedTree.{stage_fault, spec_of, specs_of, options_fault}

next : (i : ℕ) (xs : List RawStage) (x : RawStage) → i < length xs → get_or xs i x ≡ x → stages_view (drop i xs) ≡ stage_view x ∷ stages_view (drop (i + 1) xs)
next i xs x h e = ap stages_view (drop_next xs i x h e)

-- a stage with no fault is passed over
pub faults_rest : (i : ℕ) (xs : List RawStage) (x : RawStage) → i < length xs → get_or xs i x ≡ x → stage_fault i (stage_view x) ≡ None
    → options_fault i (stages_view (drop i xs)) ≡ options_fault (i + 1) (stages_view (drop (i + 1) xs))
faults_rest i xs x h e none = ap (options_fault i) (next i xs x h e) ∙ ap (λ f. or_else f (options_fault (i + 1) (stages_view (drop (i + 1) xs)))) none

pub specs_done : (i : ℕ) (xs : List RawStage) (x : RawStage) (done more : List StageSpec) → i < length xs → get_or xs i x ≡ x → more ≡ done ++ spec_of (stage_view x) ∷ []
    → done ++ specs_of (stages_view (drop i xs)) ≡ more ++ specs_of (stages_view (drop (i + 1) xs))
specs_done i xs x done more h e is = rw (next i xs x h e, is, append_assoc done (spec_of (stage_view x) ∷ []) (specs_of (stages_view (drop (i + 1) xs)))) refl
