use Rattle.std.proofs.Common.{◌<◌, length, refl, arith}
use Rattle.stage_meanings.specs.Conditions.{passes}
use Rattle.stage_meanings.specs.ByRule.{steps_of}
use Rattle.stream_filters.proofs.Judging.{judge_next}
use Rattle.stream_filters.proofs.judge.judge_each.Goals as goal

pub loop-at-preserved : goal.loop-at-preserved
loop-at-preserved g c =
    let st = steps_of (g.R.PointRule.rule c.args.rule.now) (passes c.args.only.now) in
    let inside : c.loop-at.at < length c.loop-at.points = (let so = c.loop-at.invariant.0.size in let test = c.loop-at-test.true in omega (arith, so, test)) in (
      judge_next st c.args.spot.now c.args.points.now c.loop-at.spot c.loop-at.at c.loop-at.kept c.loop-at.points c.loop-at.invariant.0 _ inside
          c.judge_point.new.spot c.in-Ok.goes c.judge_point.new.p c.move_down-kept.result c.move_down-kept.new.points
          c.in-Ok.ensures.sound c.in-Ok.ensures.becomes c.in-Ok.ensures.next c.move_down-kept.ensures.kept c.move_down-kept.ensures.rest c.move_down-kept.ensures.same c.move_down-kept.ensures.few,
      refl,
    )
