use Rattle.std.proofs.Common.{◌<◌, length, refl, arith}
use Rattle.plug_stages.specs.Works.{plug_spot, plug_steps_in}
use Rattle.plug_stages.proofs.SamePlug.{same_plug_steps, same_plug_then}
use Rattle.plug_stages.proofs.JudgingAs.{judge_next_as}
use Rattle.plug_stages.proofs.plug_work.PlugWork.judge_each.Goals as goal

pub loop-at-preserved : goal.loop-at-preserved
loop-at-preserved g c =
    let f = g.P.PlugFilter in
    let inside : c.loop-at.at < length c.loop-at.points = (let so = c.loop-at.invariant.0.size in let test = c.loop-at-test.true in omega (arith, so, test)) in (
      judge_next_as (plug_steps_in f c.args.self.now) (plug_spot f c.args.self.now) c.args.points.now (plug_steps_in f c.loop-at.self) (same_plug_steps f c.args.self.now c.loop-at.self c.loop-at.invariant.1)
          (plug_spot f c.loop-at.self) c.loop-at.at c.loop-at.kept c.loop-at.points c.loop-at.invariant.0 _ inside
          (plug_spot f c.judge.new.self) c.in-Ok.goes c.judge.new.p c.move_down-kept.result c.move_down-kept.new.points
          c.in-Ok.ensures.sound c.in-Ok.ensures.becomes c.in-Ok.ensures.next
          c.move_down-kept.ensures.kept c.move_down-kept.ensures.rest c.move_down-kept.ensures.same c.move_down-kept.ensures.few,
      same_plug_then f c.args.self.now c.loop-at.self c.judge.new.self c.loop-at.invariant.1 c.judge.ensures.same,
      refl,
    )
