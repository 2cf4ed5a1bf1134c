-- the least box, its sides along X and Y, that holds all corners of a ring
use Rattle.std.specs.Prelude.{ℤ, pos, List, [], ◌∷◌, fold}
use Rattle.std.specs.Int.{int_min, int_max}
use Rattle.geo_tests.specs.declared.extents.Extent.{Extent}

-- from the lower one of its ends and the number to the higher one
abbrev pub with_number : ℤ × ℤ → ℤ → ℤ × ℤ
with_number ends v = (int_min ends.0 v, int_max ends.1 v)

abbrev pub with_corner : Extent → ℤ × ℤ → Extent
with_corner e p = record { x = with_number e.x p.0; y = with_number e.y p.1 }

-- without corners it is a point, which plays no part
abbrev pub extent_of : List (ℤ × ℤ) → Extent
extent_of [] = record { x = (pos 0, pos 0); y = (pos 0, pos 0) }
extent_of (p ∷ ps) = fold with_corner (record { x = (p.0, p.0); y = (p.1, p.1) }) ps
