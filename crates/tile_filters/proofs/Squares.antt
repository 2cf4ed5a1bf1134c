-- Squares of equal lengths and corners.
use Rattle.std.proofs.Common.{◌≡◌, ℤ}
use Rattle.cloud_points.specs.Flows.{Flow}
use Rattle.cloud_points.specs.declared.point.Point.{Point}
use Rattle.whole_filters.specs.Whole.{whole_set}
use Rattle.tile_filters.specs.Tiles.{squares}

-- they part a flow alike
pub same_squares : (f : Flow Point) (length other x x' y y' : ℤ) → length ≡ other → x ≡ x' → y ≡ y' → whole_set (squares length x y) f ≡ whole_set (squares other x' y') f
same_squares f length other x x' y y' e h k = λ j. whole_set (squares (e j) (h j) (k j)) f
