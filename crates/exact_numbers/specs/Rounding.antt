-- a quotient rounded to a whole number, a half away from zero
use Rattle.std.specs.Prelude.{◌≡◌, ℕ, ◌+◌, ◌*◌, ◌/◌, ◌<◌, ◌≤◌, ◌↔◌, ℤ, pos, negsuc, neg_ℤ, ◌*ℤ◌, ◌-ℤ◌, unsigned_abs}

-- n is the whole number nearest to num / den, and of two such numbers the one farther from 0
pub record IsHalfAway (num : ℤ) (den : ℕ) (n : ℤ) : Type 0 where
  pub half : 2 * unsigned_abs (num -ℤ n *ℤ pos den) ≤ den
  pub away : 2 * unsigned_abs (num -ℤ n *ℤ pos den) ≡ den → unsigned_abs num < unsigned_abs n * den

-- the size with the sign of num
abbrev pub signed_as : ℤ → ℕ → ℤ
signed_as (pos n) size = pos size
signed_as (negsuc n) size = neg_ℤ (pos size)

-- that number
abbrev pub half_away : ℤ → ℕ → ℤ
half_away num den = signed_as num ((2 * unsigned_abs num + den) / (2 * den))

-- a quotient has exactly one rounding half away from zero, and `half_away` computes it
abbrev pub HalfAwayIsOne : Type 0
HalfAwayIsOne = (num : ℤ) (den : ℕ) (n : ℤ) → 0 < den → (IsHalfAway num den n) ↔ (n ≡ half_away num den)
