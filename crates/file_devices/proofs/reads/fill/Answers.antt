use Rattle.file_devices.proofs.Filling.{filling_more, filled_all, filled_to_end}
use Rattle.file_devices.proofs.reads.fill.Goals as goal

pub loop-done-preserved : goal.loop-done-preserved
loop-done-preserved g c =
    filling_more _ _ _ _ _ _ _ _ _ c.args.at c.loop-done.done c.in_ok-count.count c.args.into.now c.loop-done.into c.read_at.new.into c.loop-done.auto.into c.in_ok-count.ensures.bytes c.in_ok-count.ensures.cause.calm c.in_ok-count.ensures.reached c.loop-done.invariant c.in_ok-count.ensures.read

pub returns-after-loop-done-clause-filled : goal.returns-after-loop-done-clause-filled
returns-after-loop-done-clause-filled g c = filled_all _ _ _ _ _ _ c.args.at c.loop-done.done c.args.into.now c.loop-done.into c.loop-done.auto.into c.loop-done-test.false c.loop-done.invariant

pub returns-then-count-eq0-clause-filled : goal.returns-then-count-eq0-clause-filled
returns-then-count-eq0-clause-filled g c =
    filled_to_end _ _ _ _ _ _ _ _ _ c.args.at c.loop-done.done c.in_ok-count.count c.args.into.now c.loop-done.into c.read_at.new.into c.loop-done.auto.into c.in_ok-count.ensures.bytes c.in_ok-count.ensures.cause.calm c.in_ok-count.ensures.reached c.loop-done-test.true c.if-count-eq0.true c.loop-done.invariant c.in_ok-count.ensures.read
