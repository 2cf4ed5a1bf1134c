-- the ring round a box
use Rattle.std.specs.Prelude.{ℤ, List, [], ◌∷◌}
use Rattle.limits_text.specs.declared.shapes.Box3.{Box3}

abbrev pub corners_of : Box3 → List (ℤ × ℤ)
corners_of b = (b.x.0, b.y.0) ∷ (b.x.1, b.y.0) ∷ (b.x.1, b.y.1) ∷ (b.x.0, b.y.1) ∷ []
