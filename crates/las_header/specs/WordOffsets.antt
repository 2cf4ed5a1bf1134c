-- The offsets that their words give back.
use Rattle.std.specs.Prelude.{◌≡◌, ℕ, ◌-◌, ◌^◌, ◌<◌, ◌≤◌, ℤ, pos, ◌*ℤ◌, unsigned_abs}

-- an offset that its word gives back: below 10^9 units in size, and a whole number of at most 15 digits in 10 ^ -k units
pub record IsWordOffset (nano : ℤ) : Type 0 where
  pub places : ℕ
  pub number : ℤ
  pub few : places ≤ 9
  pub short : unsigned_abs number < 10 ^ 15
  pub small : unsigned_abs nano < 10 ^ 18
  pub is : nano ≡ number *ℤ pos (10 ^ (9 - places))
