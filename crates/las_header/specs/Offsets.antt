-- The sizes of offsets.
use Rattle.std.specs.Prelude.{◌^◌, ◌<◌, ℤ, unsigned_abs}

-- it is below 10 ^ 9, in nanounits: a word stands only for such a decimal, so an offset that is written again reads back
abbrev pub IsOffset : ℤ → Type 0
IsOffset nano = unsigned_abs nano < 10 ^ 18
