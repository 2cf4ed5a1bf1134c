use Rattle.std.proofs.Common.{◌<◌, length, ap, ◌∙◌, arith}
use Rattle.std.proofs.lemmas.List.{take_all}
use Rattle.stage_meanings.specs.Conditions.{passes}
use Rattle.stage_meanings.specs.Filters.{on_view}
use Rattle.set_filters.specs.Kinds.{rule_of}
use Rattle.set_filters.proofs.Givings.{followed, made_more}
use Rattle.set_filters.proofs.filtering.filter_part.Goals as goal

pub loop-v-preserved : goal.loop-v-preserved
loop-v-preserved c =
    let flow = c.args.views.now in
    let inside : c.loop-v.v < length flow.views = (let test = c.loop-v-test.true in let within = c.requires.views in omega (arith, test, within)) in
    let whole = take_all c.len.result c.view-view.result.now (let size = c.len.ensures in omega (arith, size)) in
    made_more flow.views c.loop-v.v flow.open_view c.view-view.result.now inside c.view-view.ensures (on_view (rule_of c.args.filter.now) (passes c.args.only.now))
    c.loop-v.given c.filter_view.new.given c.end_view.new.self c.loop-v.invariant
    (c.in_ok-filter_view.ensures ∙ ap (λ ps. followed c.loop-v.given (on_view (rule_of c.args.filter.now) (passes c.args.only.now) ps)) whole) c.in_ok-end_view.ensures.ok
