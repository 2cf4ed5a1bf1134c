-- A file that is read piece by piece.
use Rattle.std.specs.Prelude.{◌≡◌, ◌⊎◌, ℕ, ◌+◌, ◌*◌, ◌<◌, ◌≤◌, min, nat_lt, if◌then◌else◌, Bool, true, false, List, [], length, take, drop, Option, Some, None, option_map, ⊤}
use Rattle.file_devices.specs.declared.devices.Op.TheVariants.{Read}
use Rattle.cloud_points.specs.declared.dims.Dim.{Dim}
use Rattle.cloud_points.specs.declared.point.Point.{Point}
use Rattle.cloud_points.specs.declared.faults.Make.{Make}
use Rattle.cloud_points.specs.declared.faults.Make.TheVariants.{Points, EndView, End}
use Rattle.cloud_points.specs.declared.faults.StageFault.TheVariants as stage
use Rattle.cloud_points.specs.declared.faults.PointFault.{PointFault}
use Rattle.cloud_points.specs.declared.faults.PointFault.TheVariants.{Cut, ValueOutOfRange}
use Rattle.las_header.specs.declared.block.Header.{Header}
use Rattle.las_header.specs.Counts.{points_in}
use Rattle.las_reader.specs.declared.reader.Progress.{Progress}
use Rattle.las_reader.specs.declared.reader.Progress.TheVariants.{Records, ViewEnded, Ended}

-- what a call gives, and how far the reader is then
pub record Step : Type 0 where
  pub made : Make
  pub points : List Point
  pub progress : Progress

abbrev pub ends : Bool → Option PointFault → Step
ends cut fault = record { made = End cut (option_map stage.Point fault); points = []; progress = Ended cut }

abbrev pub view_ends : Step
view_ends = record { made = EndView; points = []; progress = ViewEnded }

abbrev pub gives : ℕ → List Point → Step
gives given points = record { made = Points; points = points; progress = Records (given + length points) }

-- the step behind all points, where the file has this fault, if any
abbrev pub step_behind : Option PointFault → Step
step_behind (Some fault) = ends true (Some fault)
step_behind None = view_ends

-- the next step, of at most so many points, in a file with these points and this fault
abbrev pub step_of : List Point → Option PointFault → Progress → ℕ → Step
step_of points fault (Records given) chunk = if nat_lt given (length points) then gives given (take chunk (drop given points)) else step_behind fault
step_of points fault ViewEnded chunk = ends false None
step_of points fault (Ended cut) chunk = ends cut None

-- no more points were given than there are
abbrev pub IsWithin : List Point → Progress → Type 0
IsWithin points (Records given) = given ≤ length points
IsWithin points ViewEnded = ⊤
IsWithin points (Ended cut) = ⊤

-- the fault of a record that isn't whole, or that has a value in this dimension which no point holds
abbrev pub fault_at : ℕ → Option Dim → PointFault
fault_at k (Some dim) = ValueOutOfRange k dim
fault_at k None = Cut k

-- a read that failed
abbrev pub read_failed : Make
read_failed = End true (Some (stage.Device Read))

-- a call gave this step
pub record IsStep (step : Step) (made : Make) (points : List Point) (progress : Progress) : Type 0 where
  pub made_is : made ≡ step.made
  pub points_are : points ≡ step.points
  pub progress_is : progress ≡ step.progress

-- what a call may give, whatever the source holds
abbrev pub Moves : ℕ → ℕ → Progress → Make → List Point → Progress → Type 0
Moves count chunk (Records given) Points points after = (0 < length points) × (length points ≤ chunk) × (given + length points ≤ count) × (after ≡ Records (given + length points))
Moves count chunk (Records given) EndView points after = (points ≡ []) × (after ≡ ViewEnded)
Moves count chunk (Records given) (End cut fault) points after = (points ≡ []) × (after ≡ Ended true) × (cut ≡ true) × ((fault ≡ Some (stage.Point (Cut given))) ⊎ ((fault ≡ Some (stage.Device Read)) ⊎ ((dim : Dim) × (fault ≡ Some (stage.Point (ValueOutOfRange given dim))))))
Moves count chunk ViewEnded made points after = (points ≡ []) × (after ≡ Ended false) × (made ≡ End false None)
Moves count chunk (Ended cut) made points after = (points ≡ []) × (after ≡ Ended cut) × (made ≡ End cut None)

-- the end of the next records, which a call may ask for
abbrev pub asked_to : Header → ℕ → Progress → ℕ
asked_to header chunk (Records given) = header.points_at + header.record_length * min (given + chunk) (points_in header)
asked_to header chunk ViewEnded = 0
asked_to header chunk (Ended cut) = 0
