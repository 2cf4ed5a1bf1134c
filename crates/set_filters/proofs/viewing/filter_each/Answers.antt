use Rattle.cloud_points.specs.declared.point.Point.{Point}
use Rattle.std.proofs.Common.{◌+◌, Option, [], take, drop, ap, sym, ◌∙◌}
use Rattle.std.specs.List.{cons_option, filter_map}
use Rattle.stage_meanings.specs.Conditions.{passes}
use Rattle.stage_meanings.specs.Filters.{at_point, or_nothing}
use Rattle.set_filters.specs.Kinds.{rule_of}
use Rattle.set_filters.proofs.Givings.{followed, followed_one, next_point}
use Rattle.set_filters.proofs.viewing.filter_each.Goals as goal

pub loop-k-preserved : goal.loop-k-preserved
loop-k-preserved c =
    let given = c.loop-k.given in
    let k = c.loop-k.k in
    let p = c.get.result in
    let view = c.args.view.now in
    let points = take c.args.count view in
    let becomes : Point → Option Point = λ q. or_nothing (at_point (rule_of c.args.filter.now) (passes c.args.only.now) q) in
    ap (λ flow. followed flow (filter_map becomes (drop (k + 1) points))) (c.in_ok-push_some.ensures ∙ ap (λ o. followed given (cons_option o [])) c.given_for.ensures)
    ∙ followed_one given (becomes p) (filter_map becomes (drop (k + 1) points))
    ∙ sym (ap (λ ps. followed given (filter_map becomes ps)) (next_point k c.args.count view p c.loop-k-test.true c.get.ensures))
    ∙ c.loop-k.invariant
