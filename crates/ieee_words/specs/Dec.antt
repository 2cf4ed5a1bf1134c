-- the decimal that a word stands for
use Rattle.std.specs.Prelude.{◌≡◌, ◌≢◌, ℕ, ◌-◌, ◌*◌, ◌%◌, ◌^◌, ◌<◌, ◌≤◌, ℤ, pos, ◌*ℤ◌, unsigned_abs, Result, Ok, Err, Bool, true, false}
use Rattle.ieee_words.specs.declared.decimals.Dec.{Dec}
use Rattle.ieee_words.specs.declared.decimals.WordFault.{WordFault}
use Rattle.ieee_words.specs.declared.decimals.WordFault.TheVariants.{NotFinite, TooLarge}
use Rattle.ieee_words.specs.Word.{Fraction, IsAtMost, distance, word_value, IsFinite, exponent_bits, size_in_parts, parts_of_one}
use Rattle.ieee_words.specs.Near.{IsShort}

abbrev pub whole : ℤ → Fraction
whole n = record { over = n; under = 1 }

-- the word's value in nanounits
abbrev pub nano_value : ℕ → Fraction
nano_value w = record { over = (word_value w).over *ℤ pos (10 ^ 9); under = (word_value w).under }

-- n is the whole number nearest to x, and of two such numbers the even one
pub record IsNearestWhole (x : Fraction) (n : ℤ) : Type 0 where
  pub closest : (m : ℤ) → IsAtMost (distance x (whole n)) (distance x (whole m))
  pub ties_even : (m : ℤ) → m ≢ n → IsAtMost (distance x (whole m)) (distance x (whole n)) → unsigned_abs n % 2 ≡ 0

-- the word has a short decimal, and nano is it in nanounits, by its least number of places
pub record IsExact (w : ℕ) (nano : ℤ) : Type 0 where
  pub n : ℤ
  pub k : ℕ
  pub short : IsShort w n k
  pub least : (j : ℕ) → j < k → (m : ℤ) → ¬ IsShort w m j
  pub scaled : nano ≡ n *ℤ pos (10 ^ (9 - k))

pub record IsRoundedOff (w : ℕ) (nano : ℤ) : Type 0 where
  pub none : (n : ℤ) (k : ℕ) → ¬ IsShort w n k
  pub nearest : IsNearestWhole (nano_value w) nano

-- a size of 10 ^ 9 or more
abbrev pub IsLarge : ℕ → Type 0
IsLarge w = 10 ^ 9 * parts_of_one ≤ size_in_parts w

abbrev pub IsShortOrRounded : ℕ → ℤ → Bool → Type 0
IsShortOrRounded w nano true = IsExact w nano
IsShortOrRounded w nano false = IsRoundedOff w nano

-- what a word stands for: a refusal, its short decimal, or its value rounded to nanounits
abbrev pub IsDecimalOf : ℕ → Result Dec WordFault → Type 0
IsDecimalOf w (Ok d) = IsFinite w × ¬ IsLarge w × IsShortOrRounded w d.nano d.exact
IsDecimalOf w (Err NotFinite) = exponent_bits w ≡ 2047
IsDecimalOf w (Err TooLarge) = IsFinite w × IsLarge w

-- a word has one decimal, or one refusal
abbrev pub DecimalIsOne : Type 0
DecimalIsOne = (w : ℕ) (r q : Result Dec WordFault) → IsDecimalOf w r → IsDecimalOf w q → r ≡ q
