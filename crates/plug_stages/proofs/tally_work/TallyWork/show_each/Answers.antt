use Rattle.std.proofs.Common.{◌<◌, length, refl, arith}
use Rattle.plug_stages.specs.Works.{tally_spot, tally_steps_in}
use Rattle.plug_stages.proofs.SameTally.{same_tally_steps, same_tally_then}
use Rattle.plug_stages.proofs.Showing.{show_next}
use Rattle.plug_stages.proofs.tally_work.TallyWork.show_each.Goals as goal

pub loop-at-preserved : goal.loop-at-preserved
loop-at-preserved g c =
    let f = g.T.PlugTally in
    let inside : c.loop-at.at < length c.args.points.now = (let so = c.loop-at.invariant.0.size in let test = c.loop-at-test.true in omega (arith, so, test)) in (
      show_next (tally_steps_in f c.args.self.now) (tally_spot f c.args.self.now) c.args.points.now (tally_steps_in f c.loop-at.self) (same_tally_steps f c.args.self.now c.loop-at.self c.loop-at.invariant.1)
          (tally_spot f c.loop-at.self) c.loop-at.at c.loop-at.invariant.0 _ inside (tally_spot f c.show.new.self)
          c.in-Ok.ensures.sound refl c.in-Ok.ensures.next,
      same_tally_then f c.args.self.now c.loop-at.self c.show.new.self c.loop-at.invariant.1 c.show.ensures.same,
      refl,
    )
