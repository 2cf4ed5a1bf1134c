use Rattle.limits_text.specs.Held.{AreHeld}
use Rattle.worked_values.proofs.shapes.rings.ring.Given as goal

abbrev pub invariant-loop-x : goal.invariant-loop-x
invariant-loop-x l = AreHeld l.held.items
