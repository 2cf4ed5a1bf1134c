-- The works of a tree's stages.
use Rattle.std.specs.Prelude.{◌≡◌, ℕ, List, length, map, slice_get, Some}
use Rattle.file_devices.specs.declared.devices.Source as source
use Rattle.file_devices.specs.declared.devices.Sink as sink
use Rattle.cloud_points.specs.declared.work.Work.{Ghosts}
use Rattle.las_reader.specs.declared.reader.LasReader.{LasReader}
use Rattle.stage_kinds.specs.declared.stage_work.StageWork.{StageWork}
use Rattle.stage_kinds.specs.declared.stage_work.StageWork.TheVariants.{Reader}
use Rattle.stage_kinds.specs.declared.stage_work.StageState.{StageState}
use Rattle.stage_kinds.specs.Held.{op_of, faults_of}
use Rattle.stage_kinds.specs.Leads.{ahead_of, extent_of}
use Rattle.stage_kinds.specs.Stages.{state_of, meaning_of, is_leaf, is_short, holds_of}
use Rattle.stage_kinds.specs.Reads.{tells_of, told_of, told_fault_of, points_left_of, views_left_of}
use Rattle.stage_options.specs.declared.stage.StageSpec.{StageSpec}
use Rattle.network_theory.specs.Opening.{IsFresh}
use Rattle.network_core.specs.declared.node.Node.{Node}
use Rattle.network_core.specs.Shown.{shown, work_of}
use Rattle.stage_forms.specs.Below.{Tells}
use Rattle.answer_model.specs.Values.{Opened, stage_at}
use Rattle.stage_forms.specs.Starts.{AreAtStart, AreHandedIn}
use Rattle.plug_stages.specs.declared.filter.PlugFilter as plug_type
use Rattle.plug_stages.specs.declared.tally.PlugTally as tally_type

-- what the stages are as works, by what their sources and sinks tell
abbrev pub as_works : {S K P Q : Type 0} → source.Ghosts S → sink.Ghosts K → plug_type.Ghosts P → tally_type.Ghosts Q → Ghosts (StageWork S K P Q) StageState
as_works source sink fs ts = record {
  state = λ k. state_of fs ts k;
  meaning = λ k. meaning_of fs ts k;
  leaf = λ k. is_leaf k;
  short = λ k. is_short k;
  faults = λ k. faults_of source.faults sink.faults k;
  op = λ k. op_of k;
  tells = λ k. tells_of source.bytes k;
  told = λ k. told_of source.bytes k;
  told_fault = λ k. told_fault_of source.bytes k;
  points_left = λ k. points_left_of k;
  views_left = λ k. views_left_of k;
  extent = λ k. extent_of source.bytes k;
  ahead = λ k. ahead_of source.bytes source.reached k;
  holds = λ k points. holds_of sink.bytes k points;
}

-- the numbers of the stages that each stage takes
abbrev pub ins_of : List StageSpec → List (List ℕ)
ins_of stages = map (λ s. s.ins) stages

-- a new node for each stage, over its work
pub record AreNewStages {S K P Q : Type 0} (s : source.Ghosts S) (k : sink.Ghosts K) (fs : plug_type.Ghosts P) (ts : tally_type.Ghosts Q) (stages : List StageSpec) (nodes : List (Node (StageWork S K P Q))) : Type 0 where
  pub count : length nodes ≡ length stages
  pub fresh : (i : ℕ) (n : Node (StageWork S K P Q)) → slice_get nodes i ≡ Some n → IsFresh (shown (as_works s k fs ts) ((stage_at stages i).ins) n)
  pub works : AreAtStart k.bytes stages (map work_of nodes)

-- the sources of all readers tell their files
abbrev pub ReadersTell : {S K P Q : Type 0} → source.Ghosts S → List (Node (StageWork S K P Q)) → Opened → Type 0
ReadersTell {S} {K} {P} {Q} s nodes opened = (i : ℕ) (n : Node (StageWork S K P Q)) (r : LasReader S) → slice_get nodes i ≡ Some n → work_of n ≡ Reader r → Tells s opened i r

-- the nodes run on this: the sources of all readers tell these files, and this was handed in
pub record RunOn {S K P Q : Type 0} (s : source.Ghosts S) (fs : plug_type.Ghosts P) (ts : tally_type.Ghosts Q) (stages : List StageSpec) (nodes : List (Node (StageWork S K P Q))) (opened : Opened) : Type 0 where
  pub tell : ReadersTell s nodes opened
  pub handed : AreHandedIn fs ts stages (map work_of nodes) opened.handed
