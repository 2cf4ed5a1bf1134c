use Rattle.std.proofs.Common.{◌∙◌, ap, sym}
use Rattle.stage_meanings.specs.Conditions.{passes}
use Rattle.stage_meanings.specs.ByRule.{steps_of}
use Rattle.stage_meanings.specs.Steps.{given, reached, stopped}
use Rattle.stream_filters.proofs.Marking.{given_by_mask, reached_by_mask, stopped_by_mask}
use Rattle.stream_filters.proofs.judge.judge_chunk.Goals as goal

pub returns-in-Some-clause-gives : goal.returns-in-Some-clause-gives
returns-in-Some-clause-gives g c =
    let rule = g.R.PointRule.rule c.args.rule.now in
    c.keep_marked.ensures
    ∙ sym (ap (λ o. given (steps_of rule (passes o)) c.args.spot.now c.args.points.now) c.in-Some.ensures.all_pass ∙ given_by_mask rule c.args.spot.now c.in-Some.mask c.args.points.now c.in-Some.ensures.mask)

pub returns-in-Some-clause-reaches : goal.returns-in-Some-clause-reaches
returns-in-Some-clause-reaches g c =
    let rule = g.R.PointRule.rule c.args.rule.now in
    c.pass_all.ensures.past
    ∙ sym (ap (λ o. reached (steps_of rule (passes o)) c.args.spot.now c.args.points.now) c.in-Some.ensures.all_pass ∙ reached_by_mask rule c.args.spot.now c.in-Some.mask c.args.points.now c.pass_all.ensures.within c.in-Some.ensures.mask)

pub returns-in-Some-clause-stops : goal.returns-in-Some-clause-stops
returns-in-Some-clause-stops g c =
    let rule = g.R.PointRule.rule c.args.rule.now in
    sym (ap (λ o. stopped (steps_of rule (passes o)) c.args.spot.now c.args.points.now) c.in-Some.ensures.all_pass ∙ stopped_by_mask rule c.args.spot.now c.in-Some.mask c.args.points.now c.in-Some.ensures.mask)
