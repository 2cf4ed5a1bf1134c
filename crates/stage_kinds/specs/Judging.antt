-- Points that are judged without a file.
use Rattle.std.specs.Prelude.{◌≡◌, ℕ, ◌+◌, List, length, option_map, Option, Some, None}
use Rattle.cloud_points.specs.declared.dims.Dim.{Dim}
use Rattle.cloud_points.specs.declared.point.Point.{Point}
use Rattle.cloud_points.specs.declared.faults.PointFault.{PointFault}
use Rattle.cloud_points.specs.Queue.{up_to_limit}
use Rattle.expr_lang.specs.Formula.{Formula}
use Rattle.las_writer.specs.Records.{fits, unplaced, written}
use Rattle.las_writer.specs.declared.judging.PointPlaces.{PointPlaces}
use Rattle.stage_meanings.specs.Conditions.{passes}
use Rattle.stage_meanings.specs.Filters.{first_from, is_true, point_fault, positions, refused_by}
use Rattle.stage_meanings.specs.declared.reason.Reason.{Reason}
use Rattle.stage_kinds.specs.Files.{chosen, reason_of_record}

-- why a point has no place behind so many that are written; where there are no places to look at each has one
abbrev pub by_places : Option PointPlaces → ℕ → Point → Option Reason
by_places None k p = None
by_places (Some q) k p = option_map reason_of_record (unplaced (fits q.form.now k) (written q.form.now p))

-- the first of the points of a view that is refused, by its number behind m others; of the view k are written before
abbrev pub refused_behind : Option PointPlaces → Option (Formula Dim) → ℕ → ℕ → List Point → Option (ℕ × Reason)
refused_behind places only m k view = first_from (refused_by (by_places places) (passes only)) m (positions (λ p. is_true (passes only p)) k view)

-- its fault; the number is told up to the greatest u64
abbrev pub told_fault : ℕ × Reason → PointFault
told_fault s = point_fault (up_to_limit s.0) s.1

-- none of the points of a view behind m others is refused; this is the number of the next one, and so many of the view are to be written
pub record HasPassed (places : Option PointPlaces) (only : Option (Formula Dim)) (m : ℕ) (view : List Point) (number written : ℕ) : Type 0 where
  pub none : refused_behind places only m 0 view ≡ None
  pub next : number ≡ up_to_limit (m + length view)
  pub count : written ≡ up_to_limit (length (chosen only view))
