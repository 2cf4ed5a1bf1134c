-- What the nodes of a run came to.
use Rattle.std.specs.Prelude.{◌≡◌, ℕ, ◌<◌, List, length, map, Option, Some, slice_get}
use Rattle.cloud_points.specs.declared.faults.StageFault.{StageFault}
use Rattle.cloud_points.specs.Queue.{up_to_limit}
use Rattle.network_core.specs.declared.node.Node.{Node}
use Rattle.stage_kinds.specs.declared.stage_work.StageWork.{StageWork}
use Rattle.stage_kinds.specs.Stages.{files_by, says_of, shown_by, written_by}
use Rattle.answer_model.specs.Values.{or_shown}
use Rattle.plug_stages.specs.declared.tally.PlugTally as tally_type
use Rattle.stage_options.specs.Kinds.{kind_of}
use Rattle.stage_options.specs.declared.stage.StageSpec.{StageSpec}
use Rattle.run_report.specs.declared.report.StageCount.{StageCount}

-- what a stage's node gave on, how many points it wrote or showed, how many files it wrote, and what its tally says
abbrev pub node_count : {S K P Q : Type 0} → tally_type.Ghosts Q → ℕ → StageSpec → Node (StageWork S K P Q) → StageCount
node_count ts i s n = record {
  stage = i;
  kind = kind_of s.options;
  views = up_to_limit n.views;
  points = up_to_limit n.points;
  wrote = or_shown (written_by n.work) (shown_by n.work);
  files = files_by n.work;
  tally = says_of ts n.work;
}

-- what the nodes of these stages gave on, as many as are counted
abbrev pub AreCounted : {S K P Q : Type 0} → tally_type.Ghosts Q → List StageSpec → List (Node (StageWork S K P Q)) → List StageCount → Type 0
AreCounted {S} {K} {P} {Q} ts stages nodes counts = (i : ℕ) (s : StageSpec) (n : Node (StageWork S K P Q)) → i < length counts → slice_get stages i ≡ Some s → slice_get nodes i ≡ Some n → slice_get counts i ≡ Some (node_count ts i s n)

-- their faults
abbrev pub AreFaultsOf : {W : Type 0} → List (Node W) → List (Option StageFault) → Type 0
AreFaultsOf {W} nodes faults = faults ≡ map (λ (n : Node W). n.fault) nodes
