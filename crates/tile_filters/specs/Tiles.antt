-- Points by the squares and the voxels in which they lie.
use Rattle.std.specs.Prelude.{ℤ, pos, Bool, ◌&&◌, List}
use Rattle.std.specs.Ordering.{int_eq}
use Rattle.cloud_points.specs.declared.point.Point.{Point}
use Rattle.whole_filters.specs.Whole.{groups, first_of_each}
use Rattle.tile_filters.specs.Cells.{cell_of}
use Rattle.tile_filters.specs.declared.tiles.Square.{Square}
use Rattle.tile_filters.specs.declared.tiles.Voxel.{Voxel}

-- the square of a point: its cells of X and of Y
abbrev pub square_of : ℤ → ℤ → ℤ → Point → Square
square_of length ox oy p = record { x = cell_of p.x ox length; y = cell_of p.y oy length }

-- squares are one by both cells
abbrev pub same_square : Square → Square → Bool
same_square a b = int_eq a.x b.x && int_eq a.y b.y

-- one view for each square that has points, in the order of first appearance
abbrev pub squares : ℤ → ℤ → ℤ → List Point → List (List Point)
squares length ox oy view = groups same_square (square_of length ox oy) view

-- the voxel of a point: its cells of X, Y and Z, from 0
abbrev pub voxel_of : ℤ → Point → Voxel
voxel_of cell p = record { x = cell_of p.x (pos 0) cell; y = cell_of p.y (pos 0) cell; z = cell_of p.z (pos 0) cell }

-- voxels are one by all three cells
abbrev pub same_voxel : Voxel → Voxel → Bool
same_voxel a b = int_eq a.x b.x && (int_eq a.y b.y && int_eq a.z b.z)

-- the first point of each voxel
abbrev pub voxels : ℤ → List Point → List (List Point)
voxels cell view = first_of_each same_voxel (voxel_of cell) view
