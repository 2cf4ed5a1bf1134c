-- In which cell of a row of equal cells a value lies.
use Rattle.std.specs.Prelude.{ℤ, ◌-ℤ◌}
use Rattle.std.specs.Int.{int_div_euclid}

-- the number of the cell, counted from an origin: (v - origin) / length, rounded down; the length is at least 1
abbrev pub cell_of : ℤ → ℤ → ℤ → ℤ
cell_of v origin length = int_div_euclid (v -ℤ origin) length
