-- Where memory was wanting.
use Rattle.std.specs.Prelude.{◌≡◌, ℕ, ◌<◌, true, false, List, length, slice_get, Some}
use Rattle.network_core.specs.declared.node.Node.{Node}
use Rattle.stage_kinds.specs.declared.stage_work.StageWork.{StageWork}
use Rattle.stage_kinds.specs.Stages.{is_short}
use Rattle.stage_options.specs.Roles.{is_gathering}
use Rattle.stage_options.specs.declared.stage.StageSpec.{StageSpec}
use Rattle.answer_model.specs.Values.{role_at}
use Rattle.stage_forms.specs.Starts.{IsCollecting}

-- memory was wanting at one of these nodes, and at none
abbrev pub SomeShort : {S K P Q : Type 0} → List (Node (StageWork S K P Q)) → Type 0
SomeShort {S} {K} {P} {Q} nodes = (i : ℕ) × (n : Node (StageWork S K P Q)) × (slice_get nodes i ≡ Some n) × (is_short n.work ≡ true)

abbrev pub NoneShort : {S K P Q : Type 0} → List (Node (StageWork S K P Q)) → Type 0
NoneShort {S} {K} {P} {Q} nodes = (i : ℕ) (n : Node (StageWork S K P Q)) → slice_get nodes i ≡ Some n → is_short n.work ≡ false

-- memory was wanting at one of these nodes, which takes whole views
pub record RanShort {S K P Q : Type 0} (old new : List (Node (StageWork S K P Q))) : Type 0 where
  pub place : ℕ
  pub before : Node (StageWork S K P Q)
  pub after : Node (StageWork S K P Q)
  pub was : slice_get old place ≡ Some before
  pub is : slice_get new place ≡ Some after
  pub collects : IsCollecting before.work
  pub short : is_short after.work ≡ true

-- one of these stages needs whole views
abbrev pub SomeGathers : List StageSpec → Type 0
SomeGathers stages = (i : ℕ) × (i < length stages) × (is_gathering (role_at stages i) ≡ true)
