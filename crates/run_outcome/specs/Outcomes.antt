-- Which fault of its stages is that of a run.
use Rattle.std.specs.Prelude.{ℕ, List, length, Option, Some, None}
use Rattle.file_devices.specs.declared.devices.Op.{Op}
use Rattle.cloud_points.specs.declared.faults.PointFault.{PointFault}
use Rattle.cloud_points.specs.declared.faults.StageFault.{StageFault}
use Rattle.cloud_points.specs.declared.faults.StageFault.TheVariants as stage
use Rattle.run_report.specs.declared.refusal.Place.TheVariants.{Stage}
use Rattle.run_report.specs.declared.refusal.Fault.TheVariants.{Point}
use Rattle.run_report.specs.declared.refusal.Refusal.{Refusal}
use Rattle.run_report.specs.declared.refusal.Refusal.TheVariants.{Data, Device}
use Rattle.answer_model.specs.Values.{least_from}
use Rattle.run_outcome.specs.Faults.{fault_at}

-- the operation in which a device failed, and the fault of a point
abbrev pub device_op : Option StageFault → Option Op
device_op (Some (stage.Device o)) = Some o
device_op _ = None

abbrev pub point_fault : Option StageFault → Option PointFault
point_fault (Some (stage.Point f)) = Some f
point_fault _ = None

-- the first stage whose device failed, and in what
abbrev pub first_failed : List (Option StageFault) → Option (ℕ × Op)
first_failed faults = least_from (λ i. device_op (fault_at faults i)) (length faults) 0

-- the first stage of which a point has a fault, and that fault
abbrev pub first_faulty : List (Option StageFault) → Option (ℕ × PointFault)
first_faulty faults = least_from (λ i. point_fault (fault_at faults i)) (length faults) 0

-- a device that failed goes before any fault of a point
abbrev pub refusal_by : Option (ℕ × Op) → Option (ℕ × PointFault) → Option Refusal
refusal_by (Some failed) faulty = Some (Device (Stage failed.0) failed.1)
refusal_by None (Some faulty) = Some (Data faulty.0 (Point faulty.1))
refusal_by None None = None

-- why a run is refused whose stages have these faults, if it is
abbrev pub refusal_for : List (Option StageFault) → Option Refusal
refusal_for faults = refusal_by (first_failed faults) (first_faulty faults)
