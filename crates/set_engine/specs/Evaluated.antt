-- What the stages of a tree come to that are evaluated one after the other.
use Rattle.std.specs.Prelude.{◌≡◌, ℕ, false, List, length, slice_get, Option, Some}
use Rattle.answer_model.specs.Values.{Opened}
use Rattle.cloud_points.specs.Events.{is_device}
use Rattle.cloud_points.specs.declared.faults.StageFault.{StageFault}
use Rattle.cloud_points.specs.declared.faults.StageFault.TheVariants.{Device}
use Rattle.file_devices.specs.Counts.{Rose}
use Rattle.file_devices.specs.declared.devices.Op.{Op}
use Rattle.file_devices.specs.declared.devices.Source as source
use Rattle.file_devices.specs.declared.devices.Sink as sink
use Rattle.run_report.specs.declared.report.StageCount.{StageCount}
use Rattle.run_outcome.specs.Faults.{NoneFailed, AreSound, HaveFaults, fault_at}
use Rattle.stage_kinds.specs.Held.{op_of, faults_of}
use Rattle.stage_kinds.specs.declared.stage_work.StageWork.{StageWork}
use Rattle.stage_options.specs.declared.stage.StageSpec.{StageSpec}
use Rattle.stage_forms.specs.Starts.{AreGiven}
use Rattle.stage_forms.specs.Later.{CameToEnd}
use Rattle.plug_stages.specs.declared.filter.PlugFilter as plug_type
use Rattle.plug_stages.specs.declared.tally.PlugTally as tally_type

-- the device of the work at a place failed in this
pub record FailedAt {S K P Q : Type 0} (faults : StageWork S K P Q → ℕ) (old new : List (StageWork S K P Q)) (i : ℕ) (o : Op) : Type 0 where
  pub before : StageWork S K P Q
  pub after : StageWork S K P Q
  pub was : slice_get old i ≡ Some before
  pub is : slice_get new i ≡ Some after
  pub does : op_of before ≡ Some o
  pub rose : Rose (faults before) (faults after)

-- each stage whose fault is a device's: its own device failed in that; and the count of any other stage's device is as it was
pub record AreCaused {S K P Q : Type 0} (faults : StageWork S K P Q → ℕ) (old new : List (StageWork S K P Q)) (found : List (Option StageFault)) : Type 0 where
  pub failed : (i : ℕ) (o : Op) → fault_at found i ≡ Some (Device o) → FailedAt faults old new i o
  pub calm : (i : ℕ) (v w : StageWork S K P Q) → slice_get old i ≡ Some v → slice_get new i ≡ Some w → is_device (fault_at found i) ≡ false → faults w ≡ faults v

-- the stages have ended: each whose fault is a device's, its own device failed in that, and no other one; where none failed, each has the fault that it has
-- on whole flows; and where none has a fault, they came to their end
pub record HaveEnded {S K P Q : Type 0} (s : source.Ghosts S) (k : sink.Ghosts K) (fs : plug_type.Ghosts P) (ts : tally_type.Ghosts Q) (stages : List StageSpec) (old new : List (StageWork S K P Q)) (found : List (Option StageFault)) (counts : List StageCount) : Type 0 where
  pub count : length found ≡ length stages
  pub caused : AreCaused (faults_of s.faults k.faults) old new found
  pub faulty : NoneFailed found → (opened : Opened) → AreGiven s fs ts stages old opened → HaveFaults stages opened found
  pub sound : AreSound found → (opened : Opened) → AreGiven s fs ts stages old opened → CameToEnd k.bytes fs ts stages opened new counts
