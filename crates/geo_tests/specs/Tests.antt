-- what lies in an interval, a box, a disc, a polygon and a shape
use Rattle.std.specs.Prelude.{ℕ, ◌+◌, ◌*◌, ℤ, pos, ◌-ℤ◌, ◌*ℤ◌, unsigned_abs, int_lt, int_le, nat_le, List, [], ◌∷◌, Bool, true, false, not, ◌&&◌, ◌||◌, Option, Some, None}
use Rattle.std.specs.Ordering.{int_eq}
use Rattle.cloud_points.specs.declared.point.Point.{Point}
use Rattle.limits_text.specs.declared.shapes.Interval.{Interval}
use Rattle.limits_text.specs.declared.shapes.Box3.{Box3}
use Rattle.geo_tests.specs.declared.discs.Disc.{Disc}
use Rattle.geo_tests.specs.declared.extents.Extent.{Extent}
use Rattle.geo_tests.specs.declared.shape.Shape.{Shape}
use Rattle.geo_tests.specs.declared.shape.Shape.TheVariants.{Box as OfBox, Polygon as OfPolygon, Disc as OfDisc}

abbrev pub different : Bool → Bool → Bool
different true b = not b
different false b = b

-- ---- an interval

-- an absent end doesn't bound
abbrev pub is_above : Option ℤ → Bool → ℤ → Bool
is_above None inside v = true
is_above (Some a) true v = int_le a v
is_above (Some a) false v = int_lt a v

abbrev pub is_below : Option ℤ → Bool → ℤ → Bool
is_below None inside v = true
is_below (Some a) true v = int_le v a
is_below (Some a) false v = int_lt v a

abbrev pub in_interval : ℤ → Interval → Bool
in_interval v i = different i.negated (is_above i.low i.low_in v && is_below i.high i.high_in v)

-- ---- a box

-- both ends are inside
abbrev pub in_pair : ℤ → ℤ × ℤ → Bool
in_pair v ends = int_le ends.0 v && int_le v ends.1

abbrev pub in_height : ℤ → Option (ℤ × ℤ) → Bool
in_height v None = true
in_height v (Some ends) = in_pair v ends

abbrev pub in_box : Point → Box3 → Bool
in_box p b = in_pair p.x b.x && in_pair p.y b.y && in_height p.z b.z

abbrev pub in_extent : ℤ × ℤ → Extent → Bool
in_extent p e = in_pair p.0 e.x && in_pair p.1 e.y

-- ---- a disc

abbrev pub square : ℕ → ℕ
square n = n * n

-- its border is inside; a radius below 0 leaves no point
abbrev pub in_disc : ℤ → ℤ → Disc → Bool
in_disc x y d = int_le (pos 0) d.radius
    && nat_le (square (unsigned_abs (x -ℤ d.x)) + square (unsigned_abs (y -ℤ d.y))) (square (unsigned_abs d.radius))

-- ---- a polygon

-- above 0 where the point lies to the left of the way from a to b, and 0 where it lies on their line
abbrev pub turn : ℤ × ℤ → ℤ × ℤ → ℤ × ℤ → ℤ
turn a b p = (b.0 -ℤ a.0) *ℤ (p.1 -ℤ a.1) -ℤ (b.1 -ℤ a.1) *ℤ (p.0 -ℤ a.0)

abbrev pub is_between : ℤ → ℤ → ℤ → Bool
is_between a b v = in_pair v (a, b) || in_pair v (b, a)

-- the edge has the point on it, its ends included
abbrev pub on_edge : ℤ × ℤ → ℤ × ℤ → ℤ × ℤ → Bool
on_edge a b p = int_eq (turn a b p) (pos 0) && is_between a.0 b.0 p.0 && is_between a.1 b.1 p.1

-- the way from a to b goes up past the point, a not above it and b above it, and has it on its left
abbrev pub rises_by : ℤ × ℤ → ℤ × ℤ → ℤ × ℤ → Bool
rises_by a b p = int_le a.1 p.1 && int_lt p.1 b.1 && int_lt (pos 0) (turn a b p)

-- the edge crosses the ray that goes from the point to greater X
abbrev pub crosses : ℤ × ℤ → ℤ × ℤ → ℤ × ℤ → Bool
crosses a b p = rises_by a b p || rises_by b a p

-- on some edge between neighbours of the list
abbrev pub on_border : List (ℤ × ℤ) → ℤ × ℤ → Bool
on_border [] p = false
on_border (a ∷ []) p = false
on_border (a ∷ b ∷ rest) p = on_edge a b p || on_border (b ∷ rest) p

-- whether the number of edges between neighbours of the list that cross the ray is odd
abbrev pub is_odd : List (ℤ × ℤ) → ℤ × ℤ → Bool
is_odd [] p = false
is_odd (a ∷ []) p = false
is_odd (a ∷ b ∷ rest) p = different (crosses a b p) (is_odd (b ∷ rest) p)

-- the last corner behind this one, or this one
abbrev pub last_of : ℤ × ℤ → List (ℤ × ℤ) → ℤ × ℤ
last_of a [] = a
last_of a (b ∷ rest) = last_of b rest

-- the way round a ring: from its last corner to the first one, and on to the last one
abbrev pub way_round : List (ℤ × ℤ) → List (ℤ × ℤ)
way_round [] = []
way_round (a ∷ rest) = last_of a rest ∷ a ∷ rest

-- edges and corners are inside, and else the even-odd rule decides
abbrev pub in_polygon : ℤ × ℤ → List (ℤ × ℤ) → Bool
in_polygon p corners = on_border (way_round corners) p || is_odd (way_round corners) p

-- ---- a shape

-- of a polygon or a disc the height of a point doesn't matter
abbrev pub in_shape : Point → Shape → Bool
in_shape p (OfBox b) = in_box p b
in_shape p (OfPolygon corners) = in_polygon (p.x, p.y) corners
in_shape p (OfDisc d) = in_disc p.x p.y d
