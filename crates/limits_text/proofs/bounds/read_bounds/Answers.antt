use Rattle.std.proofs.Common.{arith, ap, sym, ◌∙◌, Ok}
use Rattle.limits_text.proofs.BoxSteps.{box_taken, box_right, box_fault, box_whole}
use Rattle.limits_text.proofs.bounds.read_bounds.Goals as goal

pub returns-then-is_reversed-clause-fault : goal.returns-then-is_reversed-clause-fault
returns-then-is_reversed-clause-fault c =
    let t = c.in_ok-step.ensures.word c.in-Some.step (ap Ok c.in-Some.is) in
    let i = c.loop-step.invariant in
    box_fault c.loop-step.control c.args.text.now c.loop-step.at c.loop-step.sides c.in-Some.step t i.shown (sym c.is_reversed.ensures ∙ c.if-is_reversed.true) i.right

pub loop-step-smaller : goal.loop-step-smaller
loop-step-smaller c =
    let t = c.in_ok-step.ensures.word c.in-Some.step (ap Ok c.in-Some.is) in
    omega (arith, t.from, t.low, t.within)

pub loop-step-preserved : goal.loop-step-preserved
loop-step-preserved c =
    let t = c.in_ok-step.ensures.word c.in-Some.step (ap Ok c.in-Some.is) in
    let i = c.loop-step.invariant in
    let r = sym c.is_reversed.ensures ∙ c.if-is_reversed.false in
    record {
      reached = t.reached;
      right = box_right c.loop-step.control c.args.text.now c.loop-step.at c.loop-step.sides c.in-Some.step t i.shown r i.right;
      shown = rw c.sides_with-sides.ensures (box_taken c.loop-step.control c.args.text.now c.loop-step.at c.loop-step.sides c.in-Some.step t i.shown r);
    }

pub returns-in_default-clause-ok : goal.returns-in_default-clause-ok
returns-in_default-clause-ok c =
    let w = c.in_ok-step.ensures.whole (ap Ok c.in_default.is) in
    box_whole c.loop-step.control c.args.text.now c.loop-step.at c.loop-step.sides w.1 w.2 c.loop-step.invariant.shown
