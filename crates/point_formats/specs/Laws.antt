-- What is read from a number is written as that number.
use Rattle.std.specs.Prelude.{◌≡◌, ℕ, ◌<◌, ℤ, pos, length, IfOk, ◌+ℤ◌, ◌*ℤ◌, ◌≤ℤ◌}
use Rattle.exact_numbers.specs.Rounding.{half_away}
use Rattle.decimal_coords.specs.Grid.{nearest_step}
use Rattle.cloud_points.specs.declared.point.Point.{Point}
use Rattle.las_header.specs.declared.form.Format.{Format}
use Rattle.las_header.specs.Formats.{format_size}
use Rattle.point_formats.specs.declared.grid.Grid.{Grid}
use Rattle.point_formats.specs.Encoded.{encoded}

-- the step of a grid nearest to the coordinate of a raw number is that number
abbrev pub RawReturns : Type 0
RawReturns = (raw scale off : ℤ) → pos 1 ≤ℤ scale → nearest_step (raw *ℤ scale +ℤ off) scale off ≡ raw

-- the count of steps nearest to an angle of so many steps is their number
abbrev pub StepsReturn : Type 0
StepsReturn = (n : ℤ) (step : ℕ) → 0 < step → half_away (n *ℤ pos step) step ≡ n

-- a record has the bytes of its format
abbrev pub RecordsAreWhole : Type 0
RecordsAreWhole = (format : Format) (grid : Grid) (p : Point) → IfOk (encoded format grid p) (λ bytes. length bytes ≡ format_size format)
