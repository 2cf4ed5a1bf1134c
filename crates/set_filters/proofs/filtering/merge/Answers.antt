use Rattle.std.proofs.Common.{◌<◌, length, arith}
use Rattle.set_filters.proofs.Givings.{joined_more}
use Rattle.set_filters.proofs.filtering.merge.Goals as goal

pub loop-v-preserved : goal.loop-v-preserved
loop-v-preserved c =
    let flow = c.args.views.now in
    let inside : c.loop-v.v < length flow.views = grind arith in
    joined_more flow.views c.loop-v.v flow.open_view c.view.result.now inside c.view.ensures c.loop-v.given c.push_view.new.self c.loop-v.invariant c.in_ok-push_view.ensures.ok
