-- What stands before a stop, and its fault, where others stand before all.
use Rattle.std.specs.Prelude.{ℕ, ◌+◌, ◌-◌, List, take, Option, Some, None}
use Rattle.cloud_points.specs.Queue.{up_to_limit}
use Rattle.cloud_points.specs.declared.faults.StageFault.{StageFault}
use Rattle.stage_meanings.specs.declared.reason.Reason.{Reason}
use Rattle.stage_meanings.specs.Filters.{fault_at}

-- what stands before a stop, where n points stand before the others
abbrev pub points_from : {P R : Type 0} → ℕ → Option (ℕ × R) → List P → List P
points_from n None points = points
points_from n (Some s) points = take (s.0 - n) points

-- the fault of a stop, where so many points stand before all
abbrev pub told_behind : ℕ → ℕ × Reason → StageFault
told_behind base s = fault_at (up_to_limit (base + s.0)) s.1
