use Rattle.std.proofs.Common.{false, arith}
use Rattle.network_workers.proofs.Going.{one-goes, one-counts}
use Rattle.network_workers.proofs.rooms.takers_for.Goals as goal

pub loop-is_own-preserved : goal.loop-is_own-preserved
loop-is_own-preserved c =
    let now = c.loop-is_own.invariant in
    let pushed = c.push_reserved.ensures in
    record {
      made = one-goes c.args.workers c.args.own.now c.loop-is_own.takers.items c.push_reserved.new.self.items c.loop-is_own.is_own-index c.loop-is_own.before now.made now.before pushed.items;
      count = (let a = pushed.len in let b = now.count in omega (arith, a, b));
      before = one-counts c.args.workers c.args.own.now c.loop-is_own.is_own-index c.loop-is_own.before c.from-before.result false c.loop-is_own-test.true now.before c.from-before.ensures;
      room = (let a = pushed.capacity in let b = now.room in omega (arith, a, b));
    }
