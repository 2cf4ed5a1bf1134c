use Rattle.std.proofs.Common.{arith, ap, Ok}
use Rattle.limits_text.proofs.Shown.{point_taken, point_right}
use Rattle.limits_text.proofs.point.read_point.Goals as goal

pub loop-step-smaller : goal.loop-step-smaller
loop-step-smaller c =
    let t = c.in_ok-step.ensures.word c.in-Some.step (ap Ok c.in-Some.is) in
    omega (arith, t.from, t.low, t.within)

pub loop-step-preserved : goal.loop-step-preserved
loop-step-preserved c =
    let t = c.in_ok-step.ensures.word c.in-Some.step (ap Ok c.in-Some.is) in
    record {
      reached = t.reached;
      right = point_right c.loop-step.control c.args.text.now c.loop-step.at c.in-Some.step t c.loop-step.invariant.right;
      shown = rw c.point_with-point.ensures (point_taken c.loop-step.control c.args.text.now c.loop-step.at c.loop-step.point c.in-Some.step t c.loop-step.invariant.shown);
    }
