-- Why stages stop.
use Rattle.std.specs.Prelude.{◌≡◌, ℕ, ◌+◌, ◌<◌, length, take, Option, Some, ⊤}
use Rattle.cloud_points.specs.Flows.{Flow, all_of}
use Rattle.cloud_points.specs.Queue.{up_to_limit}
use Rattle.cloud_points.specs.declared.faults.StageFault.{StageFault}
use Rattle.cloud_points.specs.declared.faults.StageFault.TheVariants as stage
use Rattle.cloud_points.specs.declared.point.Point.{Point}
use Rattle.file_devices.specs.Counts.{Rose}
use Rattle.file_devices.specs.declared.devices.Op.{Op}
use Rattle.stage_meanings.specs.declared.reason.Reason.{Reason}
use Rattle.set_engine.specs.declared.writers.WriteErr.{WriteErr}
use Rattle.set_engine.specs.declared.writers.WriteErr.TheVariants as write

-- the fault of a device names what that does, and its count of faults rose; without one the count is as it was
abbrev pub IsCaused : Option Op → ℕ → ℕ → Option StageFault → Type 0
IsCaused op before now (Some (stage.Device o)) = (op ≡ Some o) × Rose before now
IsCaused op before now fault = now ≡ before

-- the point that a writer doesn't take stands in a view of so many
abbrev pub IsInside : ℕ → WriteErr → Type 0
IsInside count (write.Refused place n r) = place < count
IsInside count write.Failed = ⊤

-- a writer stops in a view behind so many other points, at the place and for the reason that are found
abbrev pub IsStopBehind : ℕ → Option (ℕ × Reason) → WriteErr → Type 0
IsStopBehind before found (write.Refused place n r) = (found ≡ Some (place, r)) × (n ≡ up_to_limit (before + place))
IsStopBehind before found write.Failed = ⊤

-- the number of the point at this place of a view, of all points of the flow
abbrev pub number_in : Flow Point → ℕ → ℕ → ℕ
number_in flow v place = length (all_of (take v flow.views)) + place

-- a writer stops on a flow in this view, at the point and for the reason that are found
abbrev pub IsStopAt : Flow Point → ℕ → Option (ℕ × Reason) → WriteErr → Type 0
IsStopAt flow v found (write.Refused place n r) = (found ≡ Some (number_in flow v place, r)) × (n ≡ up_to_limit (number_in flow v place))
IsStopAt flow v found write.Failed = ⊤
