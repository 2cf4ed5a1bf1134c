-- Keys of points in 64 bits.
use Rattle.std.specs.Prelude.{ℕ, ℤ, pos, ◌-ℤ◌, ◌^◌}
use Rattle.cloud_points.specs.declared.dims.Dim.{Dim}
use Rattle.cloud_points.specs.declared.dims.Dim.TheVariants.{GpsTime}

-- half of the range of the keys of times; the others are around 0
abbrev pub middle_of : Dim → ℕ
middle_of GpsTime = 2 ^ 63
middle_of dim = 0

-- a key of a dimension in 64 bits, less the middle of its range
abbrev pub short_key : Dim → ℤ → ℤ
short_key dim key = key -ℤ pos (middle_of dim)
