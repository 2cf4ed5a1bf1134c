-- The new nodes of the first stages.
use Rattle.std.proofs.Common.{◌≡◌, ℕ, List, [], slice_get, Some}
use Rattle.file_devices.specs.declared.devices.Source as source
use Rattle.file_devices.specs.declared.devices.Sink as sink
use Rattle.network_theory.specs.Opening.{IsFresh}
use Rattle.network_core.specs.declared.node.Node.{Node}
use Rattle.network_core.specs.Shown.{shown}
use Rattle.stage_kinds.specs.declared.stage_work.StageWork.{StageWork}
use Rattle.stage_options.specs.declared.stage.StageSpec.{StageSpec}
use Rattle.answer_model.specs.Values.{stage_at}
use Rattle.stage_runs.specs.Works.{as_works}
use Rattle.plug_stages.specs.declared.filter.PlugFilter as plug_type
use Rattle.plug_stages.specs.declared.tally.PlugTally as tally_type

pub record IsNew {S K P Q : Type 0} (s : source.Ghosts S) (k : sink.Ghosts K) (fs : plug_type.Ghosts P) (ts : tally_type.Ghosts Q) (stages : List StageSpec) (chunk i : ℕ) (n : Node (StageWork S K P Q)) : Type 0 where
  pub fresh : IsFresh (shown (as_works s k fs ts) ((stage_at stages i).ins) n)
  pub chunk_is : (shown (as_works s k fs ts) [] n).chunk ≡ chunk

abbrev pub AreNew : {S K P Q : Type 0} → source.Ghosts S → sink.Ghosts K → plug_type.Ghosts P → tally_type.Ghosts Q → List StageSpec → ℕ → List (Node (StageWork S K P Q)) → Type 0
AreNew {S} {K} {P} {Q} s k fs ts stages chunk nodes = (i : ℕ) (n : Node (StageWork S K P Q)) → slice_get nodes i ≡ Some n → IsNew s k fs ts stages chunk i n
