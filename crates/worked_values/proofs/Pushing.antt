-- corners that are added to others
use Rattle.std.proofs.Common.{List, [], ◌∷◌, ◌++◌, ℤ}
use Rattle.limits_text.specs.Held.{IsHeld, AreHeld}

pub AreHeld-push : (ps : List (ℤ × ℤ)) (p : ℤ × ℤ) → AreHeld ps → IsHeld p.0 → IsHeld p.1 → AreHeld (ps ++ p ∷ [])
AreHeld-push [] p h x y = (x, y, tt)
AreHeld-push (q ∷ ps) p h x y = (h.0, h.1, AreHeld-push ps p h.2 x y)
