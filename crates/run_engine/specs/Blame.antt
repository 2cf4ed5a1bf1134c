-- Which device is named where a run is closed.
use Rattle.std.specs.Prelude.{◌≡◌, ◌⊎◌, ℕ, ◌<◌, false, List, slice_get, option_map, Option, Some}
use Rattle.file_devices.specs.declared.devices.Op.{Op}
use Rattle.file_devices.specs.declared.devices.Op.TheVariants.{Write, Keep}
use Rattle.cloud_points.specs.Events.{is_device}
use Rattle.cloud_points.specs.declared.faults.StageFault.{StageFault}
use Rattle.cloud_points.specs.declared.faults.StageFault.TheVariants.{Device}
use Rattle.stage_kinds.specs.Files.{finishing_op}
use Rattle.stage_kinds.specs.Held.{op_of}
use Rattle.stage_kinds.specs.Stages.{keeps_of, writing_of}
use Rattle.stage_kinds.specs.declared.file_form.Writing.{Writing}
use Rattle.stage_kinds.specs.declared.stage_work.StageWork.{StageWork}
use Rattle.cloud_points.specs.Flows.{Flow}
use Rattle.cloud_points.specs.declared.point.Point.{Point}
use Rattle.run_ending.specs.Each.{IsEachOp}
use Rattle.run_outcome.specs.Faults.{fault_at, AreSound}
use Rattle.run_engine.specs.declared.job.Step.{Step}
use Rattle.run_engine.specs.declared.job.Step.TheVariants.{Done}

-- the device of stage i failed in this before it came to its end, and that of no earlier stage failed: its own count is above 0, and theirs
-- are 0
pub record FailedFirst {S K P Q : Type 0} (faults : StageWork S K P Q → ℕ) (found : List (Option StageFault)) (works : List (StageWork S K P Q)) (i : ℕ) (o : Op) : Type 0 where
  pub has : fault_at found i ≡ Some (Device o)
  pub least : (j : ℕ) → j < i → is_device (fault_at found j) ≡ false
  pub work : StageWork S K P Q
  pub at : slice_get works i ≡ Some work
  pub does : op_of work ≡ Some o
  pub count : 0 < faults work
  pub others : (j : ℕ) (w : StageWork S K P Q) → j < i → slice_get works j ≡ Some w → faults w ≡ 0

-- a writer's file is ended by this, and then kept; the files of views that it keeps are created, written, made whole and kept
abbrev pub EndsBy : {S K P Q : Type 0} → StageWork S K P Q → Op → Type 0
EndsBy work o =
    (option_map (λ (x : Writing). finishing_op x.form) (writing_of work) ≡ Some o)
    ⊎ (((op_of work ≡ Some Write) × (o ≡ Keep)) ⊎ ((k : Writing × Flow Point) × (keeps_of work ≡ Some k) × IsEachOp k.0.form o))

-- no stage has a fault, no device had failed, and the file of stage i, a writer, couldn't be ended or kept, or one of a view of it be written;
-- the count of the files' faults rose
pub record FailedLast {S K P Q : Type 0} (faults : StageWork S K P Q → ℕ) (rose : Type 0) (found : List (Option StageFault)) (works : List (StageWork S K P Q)) (i : ℕ) (o : Op) : Type 0 where
  pub sound : AreSound found
  pub calm : (j : ℕ) (w : StageWork S K P Q) → slice_get works j ≡ Some w → faults w ≡ 0
  pub rises : rose
  pub work : StageWork S K P Q
  pub at : slice_get works i ≡ Some work
  pub ends : EndsBy work o

-- so the device of stage i is named for this
abbrev pub IsBlamed : {S K P Q E : Type 0} → (StageWork S K P Q → ℕ) → Type 0 → List (StageWork S K P Q) → Step S K P Q E → ℕ → Op → Type 0
IsBlamed faults rose works (Done ended) i o = FailedFirst faults ended.faults.items works i o ⊎ FailedLast faults rose ended.faults.items works i o
IsBlamed faults rose works step i o = ⊥
