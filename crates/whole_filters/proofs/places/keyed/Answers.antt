use Rattle.std.proofs.Common.{◌<◌, length, get_or, arith}
use Rattle.std.proofs.lemmas.Option.{slice_get-get_or}
use Rattle.cloud_points.specs.Points.{zero_point}
use Rattle.whole_filters.proofs.Mapping.{keyed_next}
use Rattle.whole_filters.proofs.places.keyed.Goals as goal

pub loop-place-preserved : goal.loop-place-preserved
loop-place-preserved c =
    let points = c.args.points.now in
    let place = c.loop-place.place in
    let inside : place < length points = omega (arith, c.loop-place-test.true, c.len-place-end.ensures) in
    keyed_next c.args.dim c.args.down points place c.loop-place.entries.items c.loop-place.invariant
    (get_or points place zero_point) (slice_get-get_or points place zero_point inside)
    c.entry_at.result c.entry_at.ensures.key c.entry_at.ensures.place _ c.in_ok-push.ensures.items
