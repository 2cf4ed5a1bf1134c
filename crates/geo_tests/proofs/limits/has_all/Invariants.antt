use Rattle.std.proofs.Common.{◌≡◌, drop}
use Rattle.std.specs.List.{list_all}
use Rattle.cloud_points.specs.Layouts.{holds}
use Rattle.geo_tests.proofs.limits.has_all.Given as goal

abbrev pub invariant-loop-limit : goal.invariant-loop-limit
invariant-loop-limit l = list_all (λ a. holds l.dims a.dim) l.limits ≡ list_all (λ a. holds l.dims a.dim) (drop l.limit-index l.limits)
