use Rattle.std.proofs.Common.{◌≡◌, take, fold}
use Rattle.geo_tests.specs.Extents.{with_corner}
use Rattle.geo_tests.proofs.extents.Extent.of.Given as goal

abbrev pub invariant-loop-corner : goal.invariant-loop-corner
invariant-loop-corner l = l.extent ≡ fold with_corner l.initial.extent (take l.corner-index l.rest)
