-- The scale that a word of the header stands for.
use Rattle.std.specs.Prelude.{ℕ, ◌^◌, ◌<◌, ℤ, pos, ◌≤ℤ◌, nat_lt, ◌&&◌, Bool, true, false, T, if◌then◌else◌, Option, Some, None, Result, Ok, Err}
use Rattle.std.specs.Int.Signed.{le_z, le_z_yes}
use Rattle.ieee_words.specs.Scale.{IsScaleOf, HasScale}
use Rattle.ieee_words.specs.DecimalOfWord.{scale_of_word}
use Rattle.decimal_coords.specs.declared.grid.Scale.{Scale}
use Rattle.las_header.specs.declared.faults.ScaleFault.{ScaleFault}
use Rattle.las_header.specs.declared.faults.ScaleFault.TheVariants.{NotPositive, NotDecimal}

-- the word isn't 0, and its sign bit isn't set
abbrev pub IsPositive : ℕ → Type 0
IsPositive w = (0 < w) × (w < 2 ^ 63)

-- the scale whose nearest word this is, or why there is none
abbrev pub IsScaleRead : ℕ → Result Scale ScaleFault → Type 0
IsScaleRead w (Ok scale) = IsPositive w × IsScaleOf w scale.nano
IsScaleRead w (Err NotPositive) = ¬ IsPositive w
IsScaleRead w (Err NotDecimal) = IsPositive w × ¬ HasScale w

-- the scale of so many nanounits, where the tests of its bounds gave these answers
abbrev pub scale_if : (nano : ℤ) (low high : Bool) → (T low → pos 1 ≤ℤ nano) → (T high → nano ≤ℤ pos 1_000_000_000) → Option Scale
scale_if nano true true is_low is_high = Some (record { nano = nano; low = is_low tt; high = is_high tt })
scale_if nano true false is_low is_high = None
scale_if nano false high is_low is_high = None

-- a scale is from 1 to 10 ^ 9 nanounits
abbrev pub scale_of_nano : ℤ → Option Scale
scale_of_nano nano = scale_if nano (le_z (pos 1) nano) (le_z nano (pos 1_000_000_000)) le_z_yes le_z_yes

abbrev pub decimal_scale : Option ℤ → Result Scale ScaleFault
decimal_scale None = Err NotDecimal
decimal_scale (Some nano) = known (scale_of_nano nano)
  where
    known : Option Scale → Result Scale ScaleFault
    known (Some scale) = Ok scale
    known None = Err NotDecimal

-- it, computed
abbrev pub scale_read : ℕ → Result Scale ScaleFault
scale_read w = if nat_lt 0 w && nat_lt w (2 ^ 63) then decimal_scale (scale_of_word w) else Err NotPositive
