use Rattle.std.proofs.Common.{◌≡◌, ◌+◌, ◌<◌, length, take, arith}
use Rattle.cloud_points.specs.Flows.{all_of}
use Rattle.whole_filters.specs.Held.{view_at}
use Rattle.set_filters.proofs.Firsts.{count_more}
use Rattle.set_engine.proofs.evaluating.stage_count.Goals as goal

pub loop-v-preserved : goal.loop-v-preserved
loop-v-preserved c =
    let flow = c.args.given.now in
    let inside : c.loop-v.v < length flow.views = (let t = c.loop-v-test.true in let n = c.views-v-end.ensures in omega (arith, t, n)) in
    let more : length (all_of (take (c.loop-v.v + 1) flow.views)) ≡ length (all_of (take c.loop-v.v flow.views)) + length (view_at flow c.loop-v.v) = count_more flow.views c.loop-v.v flow.open_view inside in
    omega (arith, more, c.len.ensures, c.saturating_add-points.ensures, c.loop-v.invariant)
