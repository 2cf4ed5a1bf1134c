-- what lies within limits
use Rattle.std.specs.Prelude.{List, Bool, ◌&&◌}
use Rattle.std.specs.List.{list_all, list_any}
use Rattle.cloud_points.specs.Layouts.{is_same}
use Rattle.cloud_points.specs.Points.{get}
use Rattle.cloud_points.specs.declared.dims.Dim.{Dim}
use Rattle.cloud_points.specs.declared.point.Point.{Point}
use Rattle.geo_tests.specs.Tests.{in_interval}
use Rattle.geo_tests.specs.declared.limits.Limit.{Limit}

-- whether a limit is one of this dimension and holds at a point
abbrev pub is_within : Point → Dim → Limit → Bool
is_within p dim limit = is_same limit.dim dim && in_interval (get p limit.dim) limit.interval

-- whether one of the limits of a dimension does
abbrev pub one_holds : List Limit → Point → Dim → Bool
one_holds limits p dim = list_any (is_within p dim) limits

-- of each dimension that is named one of its limits holds
abbrev pub in_limits : Point → List Limit → Bool
in_limits p limits = list_all (λ a. one_holds limits p a.dim) limits
