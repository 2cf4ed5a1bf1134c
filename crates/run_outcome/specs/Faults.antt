-- The faults of the stages of a run.
use Rattle.std.specs.Prelude.{◌≡◌, ℕ, ◌<◌, false, List, length, slice_index_or, Option, None, option_map}
use Rattle.cloud_points.specs.Events.{is_device}
use Rattle.cloud_points.specs.declared.faults.StageFault.{StageFault}
use Rattle.cloud_points.specs.declared.faults.StageFault.TheVariants.{Point}
use Rattle.stage_options.specs.declared.stage.StageSpec.{StageSpec}
use Rattle.answer_model.specs.Values.{Opened, stage_fault}

-- the fault of stage i
abbrev pub fault_at : List (Option StageFault) → ℕ → Option StageFault
fault_at faults i = slice_index_or faults i None

-- no device failed
abbrev pub NoneFailed : List (Option StageFault) → Type 0
NoneFailed faults = (i : ℕ) → is_device (fault_at faults i) ≡ false

-- no stage has a fault
abbrev pub AreSound : List (Option StageFault) → Type 0
AreSound faults = (i : ℕ) → fault_at faults i ≡ None

-- each stage has the fault that it has on whole flows, over these files
abbrev pub HaveFaults : List StageSpec → Opened → List (Option StageFault) → Type 0
HaveFaults stages opened faults = (i : ℕ) → i < length stages → fault_at faults i ≡ option_map Point (stage_fault stages opened i)
