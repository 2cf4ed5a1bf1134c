-- Texts and what they say, by the definitions alone.
use Rattle.std.specs.Prelude.{◌≡◌, pos, negsuc, [], ◌∷◌, true, false, Some, None, codes}
use Rattle.std.proofs.Common.{refl}
use Rattle.decimal_coords.specs.DecimalOfText.{decimal_of_text}
use Rattle.limits_text.specs.Texts.{point_of, bounds_of, corners_in, polygon_of, ranges_in, ranges_of}

point : point_of (codes " PoInT(1 -.5 )") ≡ Some (pos 1000000000, negsuc 499999999)
unfolding point_of decimal_of_text
point = refl

-- a space must stand between the two decimals
no_point : point_of (codes "POINT (1-2)") ≡ None
unfolding point_of decimal_of_text
no_point = refl

flat_box : bounds_of (codes "([0,1],[ -1, -1 ])") ≡ Some (record {
  x = (pos 0, pos 1000000000);
  y = (negsuc 999999999, negsuc 999999999);
  z = None;
})
unfolding bounds_of decimal_of_text
flat_box = refl

-- the first of each pair is at most the second
no_box : bounds_of (codes "([0,1],[3,2])") ≡ None
unfolding bounds_of decimal_of_text
no_box = refl

triangle : polygon_of (codes "POLYGON ((0 0, 1 0, 1 1, 0 0))")
    ≡ Some ((pos 0, pos 0) ∷ (pos 1000000000, pos 0) ∷ (pos 1000000000, pos 1000000000) ∷ (pos 0, pos 0) ∷ [])
unfolding polygon_of corners_in decimal_of_text
triangle = refl

-- the last corner is the first one
no_polygon : polygon_of (codes "POLYGON ((0 0, 1 0, 1 1, 0 1))") ≡ None
unfolding polygon_of corners_in decimal_of_text
no_polygon = refl

two_ranges : ranges_of (codes "Z![:1), a_1 (2:1]") ≡ Some (
    record {
      name = codes "Z";
      interval = record { low = None; low_in = true; high = Some (pos 1000000000); high_in = false; negated = true };
    } ∷ record {
      name = codes "a_1";
      interval = record { low = Some (pos 2000000000); low_in = false; high = Some (pos 1000000000); high_in = true; negated = false };
    } ∷ [])
unfolding ranges_of ranges_in decimal_of_text
two_ranges = refl

no_range : ranges_of (codes "Z[0:1],") ≡ None
unfolding ranges_of ranges_in decimal_of_text
no_range = refl
