-- Stages at their places.
use Rattle.std.proofs.Common.{◌≡◌, ℕ, List, slice_get, Some, ap, sym}
use Rattle.std.proofs.lemmas.Option.{get_or_from_slice_get}
use Rattle.stage_options.specs.Roles.{role_of}
use Rattle.stage_options.specs.declared.stage.StageSpec.{StageSpec}
use Rattle.answer_model.specs.Values.{stage_at, role_at}

-- a stage that stands at a place
pub stage-is : (stages : List StageSpec) (i : ℕ) (s : StageSpec) → slice_get stages i ≡ Some s → stage_at stages i ≡ s
stage-is stages i s e = get_or_from_slice_get stages i s _ e

pub role-is : (stages : List StageSpec) (i : ℕ) (s : StageSpec) → slice_get stages i ≡ Some s → role_of s.options ≡ role_at stages i
role-is stages i s e = ap (λ (t : StageSpec). role_of t.options) (sym (stage-is stages i s e))
