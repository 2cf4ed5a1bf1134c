-- raw coordinates on a grid
use Rattle.std.specs.Prelude.{ℤ, ◌-ℤ◌, unsigned_abs}
use Rattle.exact_numbers.specs.Rounding.{half_away}

-- the step of the grid nearest to a value, where the grid's steps are `scale` apart and step 0 is at `off`
abbrev pub nearest_step : ℤ → ℤ → ℤ → ℤ
nearest_step nano scale off = half_away (nano -ℤ off) (unsigned_abs scale)
