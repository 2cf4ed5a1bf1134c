-- the word nearest to a decimal
use Rattle.std.specs.Prelude.{◌≡◌, ◌≢◌, ℕ, ◌%◌, ◌^◌, ◌<◌, ◌≤◌, ℤ, pos, unsigned_abs}
use Rattle.ieee_words.specs.Word.{IsAtMost, distance, word_value, decimal_of, IsFinite, fraction_bits}

-- w is the word nearest to n / 10 ^ k; of two such words it is the one with the even fraction
pub record IsNearest (n : ℤ) (k w : ℕ) : Type 0 where
  pub finite : IsFinite w
  pub closest : (v : ℕ) → IsFinite v →
      IsAtMost (distance (decimal_of n k) (word_value w)) (distance (decimal_of n k) (word_value v))
  pub ties_even : (v : ℕ) → IsFinite v → v ≢ w →
      IsAtMost (distance (decimal_of n k) (word_value v)) (distance (decimal_of n k) (word_value w)) →
      fraction_bits w % 2 ≡ 0
  pub zero : n ≡ pos 0 → w ≡ 0

-- n / 10 ^ k has at most 15 digits and 9 places, and its nearest word is w
pub record IsShort (w : ℕ) (n : ℤ) (k : ℕ) : Type 0 where
  pub places : k ≤ 9
  pub digits : unsigned_abs n < 10 ^ 15
  pub near : IsNearest n k w

-- a decimal of at most 9 places has one nearest word
abbrev pub NearestIsOne : Type 0
NearestIsOne = (n : ℤ) (k w v : ℕ) → k ≤ 9 → IsNearest n k w → IsNearest n k v → w ≡ v
