-- Points and parts of held views by their places.
use Rattle.std.specs.Prelude.{ℕ, ◌+◌, ◌≤◌, ◌<◌, length, take}
use Rattle.cloud_points.specs.Flows.{Flow, all_of}
use Rattle.cloud_points.specs.declared.point.Point.{Point}
use Rattle.stage_meanings.specs.declared.reason.Reason.{Reason}
use Rattle.whole_filters.specs.Held.{view_at}
use Rattle.set_filters.specs.declared.stops.Stop.{Stop}
use Rattle.set_filters.specs.declared.stops.Span.{Span}

-- how many points stand before the one at place k of the view at place v
abbrev pub number_at : Flow Point → ℕ → ℕ → ℕ
number_at flow v k = length (all_of (take v flow.views)) + k

-- a stop by the number of its point
abbrev pub numbered : Flow Point → Stop → ℕ × Reason
numbered flow s = (number_at flow s.view s.place, s.reason)

-- there is such a point
pub record IsIn (flow : Flow Point) (s : Stop) : Type 0 where
  pub view : s.view ≤ length flow.views
  pub place : s.place < length (view_at flow s.view)

-- so many whole views, and so many points of the next one
abbrev pub part : Flow Point → Span → Flow Point
part flow s = record { views = take s.views flow.views; open_view = take s.points (view_at flow s.views); cut = s.cut }

-- there are so many
pub record IsWithin (flow : Flow Point) (s : Span) : Type 0 where
  pub views : s.views ≤ length flow.views
  pub points : s.points ≤ length (view_at flow s.views)
