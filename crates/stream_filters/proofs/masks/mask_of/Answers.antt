use Rattle.std.proofs.Common.{arith}
use Rattle.stream_filters.proofs.Marking.{mask_below, byte_small}
use Rattle.stream_filters.proofs.masks.mask_of.Goals as goal

pub overflow_mul-mask : goal.overflow_mul-mask
overflow_mul-mask g c =
    let h = mask_below (g.T.PointTest.test c.args.test.now) c.args.points.now c.loop-at.at c.loop-at-test.true c.requires in
    let e = c.loop-at.invariant.0 in
    omega (arith, h, e)

pub overflow_add-mask : goal.overflow_add-mask
overflow_add-mask g c =
    let h = mask_below (g.T.PointTest.test c.args.test.now) c.args.points.now c.loop-at.at c.loop-at-test.true c.requires in
    let e = c.loop-at.invariant.0 in
    omega (arith, h, e, byte_small c.holds.result)
