use Rattle.std.proofs.Common.{◌∙◌, sym}
use Rattle.std.specs.Int.{w64}
use Rattle.std.proofs.lemmas.Int.{to_z-of_z}
use Rattle.geo_tests.proofs.Around.{held_inside}
use Rattle.geo_tests.proofs.Outside.{outside}
use Rattle.geo_tests.proofs.polygons.in_ring.Goals as goal

pub returns-then-not-holds : goal.returns-then-not-holds
returns-then-not-holds c =
    let x = to_z-of_z w64 c.args.x c.ranges.x in
    let y = to_z-of_z w64 c.args.y c.ranges.y in
    let out = rw (x, y, c.requires.extent) at c.holds.ensures in
    sym (outside (c.args.x, c.args.y) c.args.corners.now (sym out ∙ c.if-not-holds.true))

pub walk_round-requires : goal.walk_round-requires
walk_round-requires c =
    let x = to_z-of_z w64 c.args.x c.ranges.x in
    let y = to_z-of_z w64 c.args.y c.ranges.y in
    let held = rw (x, y, c.requires.extent) at c.holds.ensures in
    rw (x, y) (held_inside c.args.corners.now (c.args.x, c.args.y) c.requires.held (sym held ∙ c.if-not-holds.false))
