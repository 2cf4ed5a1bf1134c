-- The grid of the coordinates.
use Rattle.std.specs.Prelude.{◌≡◌, ℕ, ℤ, pos, ◌+ℤ◌, ◌*ℤ◌, ◌≤ℤ◌, ◌^◌, ◌≤◌, unsigned_abs, map, get_or, All}
use Rattle.las_header.specs.declared.block.Header.{Header}
use Rattle.point_formats.specs.declared.grid.Grid.{Grid}

-- the step of an axis, in nanounits
abbrev pub scale_on : Grid → ℕ → ℤ
scale_on grid axis = get_or (map (λ s. s.nano) grid.scale) axis (pos 1)

-- the steps of the axes are nanounits at least
abbrev pub HasSteps : Grid → Type 0
HasSteps grid = (axis : ℕ) → pos 1 ≤ℤ scale_on grid axis

-- so many nanounits are the step of an axis, which is at most one unit
abbrev pub IsStep : ℕ → ℤ → Type 0
IsStep by step = (pos by ≡ step) × (by ≤ 10 ^ 9)

-- the coordinate of raw number 0, in nanounits
abbrev pub offset_on : Grid → ℕ → ℤ
offset_on grid axis = get_or grid.offset axis (pos 0)

-- the coordinate of a raw number, in nanounits
abbrev pub coordinate : Grid → ℕ → ℤ → ℤ
coordinate grid axis raw = raw *ℤ scale_on grid axis +ℤ offset_on grid axis

-- the grid of a file with this header
abbrev pub grid_of : Header → Grid
grid_of header = record { scale = header.scale; offset = header.offset }

-- an offset of at most 10 ^ 9 units in size, in nanounits
abbrev pub IsNearOffset : ℤ → Type 0
IsNearOffset nano = unsigned_abs nano ≤ 10 ^ 18

-- each offset is so
abbrev pub IsNear : Grid → Type 0
IsNear grid = All IsNearOffset grid.offset
