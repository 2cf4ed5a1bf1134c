-- Worked rows: what bound filters give for a small flow.
use Rattle.std.specs.Prelude.{◌≡◌, ℕ, ◌*◌, ◌^◌, true, false, pos, [], ◌∷◌, Some, None, refl}
use Rattle.cloud_points.specs.Flows.{Flow}
use Rattle.cloud_points.specs.Points.{zero_point}
use Rattle.cloud_points.specs.declared.dims.Dim.{Dim}
use Rattle.cloud_points.specs.declared.dims.Dim.TheVariants.{Red, Classification}
use Rattle.cloud_points.specs.declared.faults.PointFault.TheVariants as fault
use Rattle.cloud_points.specs.declared.point.Point.{Point}
use Rattle.expr_lang.specs.Formula.{Formula, number, name, binary}
use Rattle.expr_lang.specs.declared.op.BinaryOp.TheVariants.{Equal, Plus}
use Rattle.stage_meanings.specs.Filtering.{filtered, filtered_stop}
use Rattle.name_binding.specs.declared.binding.BoundFilter.{BoundFilter}
use Rattle.name_binding.specs.declared.binding.BoundFilter.TheVariants as filter
use Rattle.set_filters.specs.Kinds.{filtering_of}
use Rattle.set_filters.specs.Stops.{part}

abbrev point : ℕ → ℕ → Point
point red class = record zero_point { red = red; classification = class }

abbrev units : ℕ → Formula Dim
units n = number (pos (n * 10 ^ 9))

-- `Red == 1`
abbrev is_red : Formula Dim
is_red = binary Equal (name Red) (units 1)

abbrev four : Flow Point
four = record { views = (point 1 3 ∷ point 1 4 ∷ []) ∷ []; open_view = point 0 9 ∷ point 1 255 ∷ []; cut = false }

-- each view by itself
first_ones : filtered (filtering_of (filter.Head 1) None) four ≡ record { views = (point 1 3 ∷ []) ∷ []; open_view = point 0 9 ∷ []; cut = false }
first_ones = refl

-- a point that doesn't pass stays, and isn't counted
first_red_ones : filtered (filtering_of (filter.Head 1) (Some is_red)) four ≡ record { views = (point 1 3 ∷ []) ∷ []; open_view = point 0 9 ∷ point 1 255 ∷ []; cut = false }
first_red_ones = refl

every_other_one : filtered (filtering_of (filter.Decimation 2 1 None) None) four ≡ record { views = (point 1 4 ∷ []) ∷ []; open_view = point 1 255 ∷ []; cut = false }
every_other_one = refl

-- `Classification = Classification + 1`
abbrev one_up : BoundFilter
one_up = filter.Assign (record { target = Classification; value = binary Plus (name Classification) (units 1); only = None } ∷ [])

-- up to the point that would have the class 256
classes_up : filtered (filtering_of one_up None) four ≡ record { views = (point 1 4 ∷ point 1 5 ∷ []) ∷ []; open_view = point 0 10 ∷ []; cut = true }
classes_up = refl

class_too_high : filtered_stop (filtering_of one_up None) four ≡ Some (fault.ValueOutOfRange 3 Classification)
class_too_high = refl

all_in_one : filtered (filtering_of filter.Merge None) four ≡ record { views = (point 1 3 ∷ point 1 4 ∷ point 0 9 ∷ point 1 255 ∷ []) ∷ []; open_view = []; cut = false }
all_in_one = refl

-- one whole view, and one point of the next
a_part : part four (record { views = 1; points = 1; cut = true }) ≡ record { views = (point 1 3 ∷ point 1 4 ∷ []) ∷ []; open_view = point 0 9 ∷ []; cut = true }
a_part = refl
