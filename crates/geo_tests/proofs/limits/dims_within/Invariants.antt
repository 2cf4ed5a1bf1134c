use Rattle.std.proofs.Common.{◌≡◌, take}
use Rattle.cloud_points.specs.Layouts.{holds}
use Rattle.cloud_points.specs.declared.dims.Dim.{Dim}
use Rattle.geo_tests.specs.Limits.{one_holds}
use Rattle.geo_tests.proofs.limits.dims_within.Given as goal

-- those of the limits so far
abbrev pub invariant-loop-limit : goal.invariant-loop-limit
invariant-loop-limit l = (dim : Dim) → holds l.within dim ≡ one_holds (take l.limit-index l.limits) l.p dim
