-- the scale that a word stands for
use Rattle.std.specs.Prelude.{◌≡◌, ℕ, ◌^◌, ◌≤◌, ℤ, pos, ◌≤ℤ◌}
use Rattle.ieee_words.specs.Near.{IsNearest}

-- nano / 10 ^ 9 is from 10 ^ -9 to 1, and its nearest word is w
pub record IsScaleOf (w : ℕ) (nano : ℤ) : Type 0 where
  pub low : pos 1 ≤ℤ nano
  pub high : nano ≤ℤ pos (10 ^ 9)
  pub near : IsNearest nano 9 w

-- the word is nearest to some n / 10 ^ k of at most 9 places, from 10 ^ -9 to 1
abbrev pub HasScale : ℕ → Type 0
HasScale w = (n : ℕ) × (k : ℕ) × (k ≤ 9) × (1 ≤ n) × (n ≤ 10 ^ k) × IsNearest (pos n) k w

-- a word has one scale
abbrev pub ScaleIsOne : Type 0
ScaleIsOne = (w : ℕ) (n m : ℤ) → IsScaleOf w n → IsScaleOf w m → n ≡ m
