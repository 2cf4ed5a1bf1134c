use Rattle.std.proofs.Common.{refl}
use Rattle.worked_values.proofs.Pushing.{AreHeld-push}
use Rattle.worked_values.proofs.shapes.rings.ring.Goals as goal

pub loop-x-preserved : goal.loop-x-preserved
loop-x-preserved c =
    let x = c.if-not-is_held.ensures.0 refl in
    let y = c.if-not-is_held-2.ensures.0 refl in
    rw c.in-Ok.ensures.items (AreHeld-push _ _ c.loop-x.invariant x y)
