-- what the words of a point show while it is read
use Rattle.std.specs.Prelude.{ℤ, List, [], ◌∷◌, codes}
use Rattle.limits_text.specs.declared.control.Control.{Control}
use Rattle.limits_text.specs.declared.control.Control.TheVariants.{Point, PointOpen, PointX, PointY, PointClose, End}
use Rattle.limits_text.specs.Words.{Word}
use Rattle.limits_text.specs.Pieces.{AreShown, sign, keyword, number, second}

-- what the words show, the latest first, where c comes next
abbrev pub IsPointFront : Control → ℤ × ℤ → List Word → Type 0
IsPointFront Point p ws = AreShown [] ws
IsPointFront PointOpen p ws = AreShown (keyword (codes "point") ∷ []) ws
IsPointFront PointX p ws = AreShown (sign 40 ∷ keyword (codes "point") ∷ []) ws
IsPointFront PointY p ws = AreShown (number p.0 ∷ sign 40 ∷ keyword (codes "point") ∷ []) ws
IsPointFront PointClose p ws = AreShown (second p.1 ∷ number p.0 ∷ sign 40 ∷ keyword (codes "point") ∷ []) ws
IsPointFront End p ws = AreShown (sign 41 ∷ second p.1 ∷ number p.0 ∷ sign 40 ∷ keyword (codes "point") ∷ []) ws
IsPointFront _ p ws = ⊥
