-- Cells that compute: values and lengths in tenths, and origins other than 0.
use Rattle.std.specs.Prelude.{◌≡◌, pos, negsuc, refl}
use Rattle.tile_filters.specs.Cells.{cell_of}

pub inside : cell_of (pos 99) (pos 0) (pos 10) ≡ pos 9
inside = refl

pub corner : cell_of (pos 100) (pos 0) (pos 10) ≡ pos 10
corner = refl

-- -1 and -10 lie in one cell, and -11 in the next
pub below : cell_of (negsuc 0) (pos 0) (pos 10) ≡ negsuc 0
below = refl

pub lowest : cell_of (negsuc 9) (pos 0) (pos 10) ≡ negsuc 0
lowest = refl

pub next : cell_of (negsuc 10) (pos 0) (pos 10) ≡ negsuc 1
next = refl

pub moved : cell_of (pos 2) (pos 3) (pos 10) ≡ negsuc 0
moved = refl
