-- What stages come to whose turns end when all is done, or at the first fault, and why their run is refused.
use Rattle.std.specs.Prelude.{◌≡◌, ◌⊎◌, ℕ, List, length, Option, Some, option_map, Err}
use Rattle.file_devices.specs.Named.{Names}
use Rattle.file_devices.specs.declared.devices.Source as source
use Rattle.file_devices.specs.declared.devices.Sink as sink
use Rattle.cloud_points.specs.declared.faults.StageFault.{StageFault}
use Rattle.cloud_points.specs.declared.faults.StageFault.TheVariants as stage
use Rattle.network_core.specs.declared.stop.Stop.{Stop}
use Rattle.network_core.specs.declared.stop.Stop.TheVariants.{Last, First}
use Rattle.stage_kinds.specs.declared.stage_work.StageWork.{StageWork}
use Rattle.stage_kinds.specs.Held.{faults_of}
use Rattle.stage_options.specs.declared.stage.StageSpec.{StageSpec}
use Rattle.run_report.specs.declared.report.StageCount.{StageCount}
use Rattle.run_report.specs.declared.refusal.Fault.{Fault}
use Rattle.run_report.specs.declared.refusal.Fault.TheVariants as fault
use Rattle.run_report.specs.declared.refusal.Refusal.{Refusal}
use Rattle.run_report.specs.declared.refusal.Refusal.TheVariants as of
use Rattle.answer_model.specs.Values.{Opened, stage_fault}
use Rattle.answer_model.specs.Runs.{opened_in, run_of}
use Rattle.stage_forms.specs.Starts.{AreGiven}
use Rattle.plug_stages.specs.Handed.{Handed}
use Rattle.stage_forms.specs.Later.{CameToEnd}
use Rattle.run_outcome.specs.Faults.{NoneFailed, AreSound, HaveFaults, fault_at}
use Rattle.run_outcome.specs.Cause.{CanBegin, IsCause}
use Rattle.set_engine.specs.Evaluated.{AreCaused}
use Rattle.run_engine.specs.declared.engine.Engine.{Engine}
use Rattle.run_engine.specs.declared.engine.Engine.TheVariants.{Queues, Whole}
use Rattle.plug_stages.specs.declared.filter.PlugFilter as plug_type
use Rattle.plug_stages.specs.declared.tally.PlugTally as tally_type

-- ---- what they come to

-- the faults that stages have on whole flows, over these files: all of them, or those that were seen
abbrev pub HaveFaultsBy : Stop → List StageSpec → Opened → List (Option StageFault) → Type 0
HaveFaultsBy Last stages opened found = HaveFaults stages opened found
HaveFaultsBy First stages opened found = (i : ℕ) (f : StageFault) → fault_at found i ≡ Some f → option_map stage.Point (stage_fault stages opened i) ≡ Some f

-- as stages that are evaluated whole have ended, but that turns may have ended at a fault
pub record HaveEndedBy {S K P Q : Type 0} (s : source.Ghosts S) (k : sink.Ghosts K) (fs : plug_type.Ghosts P) (ts : tally_type.Ghosts Q) (stop : Stop) (stages : List StageSpec) (old new : List (StageWork S K P Q)) (found : List (Option StageFault)) (counts : List StageCount) : Type 0 where
  pub count : length found ≡ length stages
  pub caused : AreCaused (faults_of s.faults k.faults) old new found
  pub faulty : NoneFailed found → (opened : Opened) → AreGiven s fs ts stages old opened → HaveFaultsBy stop stages opened found
  pub sound : AreSound found → (opened : Opened) → AreGiven s fs ts stages old opened → CameToEnd k.bytes fs ts stages opened new counts

-- where the turns of stages end by this engine: those that are evaluated whole take none, and all come to their end
abbrev pub ends_at : Engine → Stop → Stop
ends_at (Queues shape) stop = stop
ends_at Whole stop = Last

-- ---- why they are refused

-- a stage has this fault, in a run that can begin
abbrev pub IsFaultIn : Handed → Names → List StageSpec → ℕ → Fault → Type 0
IsFaultIn handed m stages i (fault.Point f) = CanBegin handed m stages × (stage_fault stages (opened_in handed m stages) i ≡ Some f)
IsFaultIn handed m stages i f = ⊥

-- the data are refused for this: for what the run comes to, or, where turns end at the first fault, for any stage's fault
abbrev pub IsRefusedFor : Stop → Handed → Names → List StageSpec → ℕ → Fault → Type 0
IsRefusedFor Last handed m stages i f = run_of handed m stages ≡ Err (of.Data i f)
IsRefusedFor First handed m stages i f = (run_of handed m stages ≡ Err (of.Data i f)) ⊎ IsFaultIn handed m stages i f

-- why a run was refused whose turns end there
abbrev pub IsCauseBy : Stop → Type 0 → Handed → Option Names → List StageSpec → Refusal → Type 0
IsCauseBy stop rose handed map stages (of.Data i f) = (m : Names) → map ≡ Some m → IsRefusedFor stop handed m stages i f
IsCauseBy stop rose handed map stages refusal = IsCause rose handed map stages refusal
