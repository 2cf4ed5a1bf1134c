use Rattle.std.proofs.Common.{◌<◌, length, get_or, arith}
use Rattle.std.proofs.lemmas.Option.{slice_get-get_or}
use Rattle.cloud_points.specs.Points.{zero_point}
use Rattle.whole_filters.proofs.Joining.{raised_next}
use Rattle.whole_filters.proofs.places.raised_keys.Goals as goal

pub loop-place-preserved : goal.loop-place-preserved
loop-place-preserved c =
    let points = c.args.points.now in
    let place = c.loop-place.place in
    let inside : place < length points = omega (arith, c.loop-place-test.true, c.len-place-end.ensures) in
    raised_next c.args.dim c.args.down points place c.loop-place.keys.items c.loop-place.invariant
    (get_or points place zero_point) (slice_get-get_or points place zero_point inside)
    c.raised_key.result c.raised_key.ensures _ c.in_ok-push.ensures.items
