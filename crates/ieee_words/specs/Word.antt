-- binary64 words: a sign bit, 11 exponent bits and 52 fraction bits, from the top
use Rattle.std.specs.Prelude.{ℕ, ◌+◌, ◌-◌, ◌*◌, ◌/◌, ◌%◌, ◌^◌, ◌<◌, ℤ, pos, neg_ℤ, ◌*ℤ◌, ◌-ℤ◌, ◌≤ℤ◌, unsigned_abs, ◌==◌, nat_le, if◌then◌else◌}

-- a quotient of whole numbers; `under` is above 0
pub record Fraction : Type 0 where
  pub over : ℤ
  pub under : ℕ

-- the fractions compared by cross products
abbrev pub IsAtMost : Fraction → Fraction → Type 0
IsAtMost x y = (x.over *ℤ pos y.under) ≤ℤ (y.over *ℤ pos x.under)

-- the size of the difference
abbrev pub distance : Fraction → Fraction → Fraction
distance x y = record {
  over = pos (unsigned_abs (x.over *ℤ pos y.under -ℤ y.over *ℤ pos x.under));
  under = x.under * y.under;
}

abbrev pub fraction_bits : ℕ → ℕ
fraction_bits w = w % 2 ^ 52

abbrev pub exponent_bits : ℕ → ℕ
exponent_bits w = w / 2 ^ 52 % 2 ^ 11

abbrev pub IsFinite : ℕ → Type 0
IsFinite w = (w < 2 ^ 64) × (exponent_bits w < 2047)

-- the least positive word's value is one part of these
unfoldable pub parts_of_one : ℕ
parts_of_one = 2 ^ 1074

-- the size of a word's value, counted in such parts
unfoldable pub size_in_parts : ℕ → ℕ
size_in_parts w = if exponent_bits w == 0 then fraction_bits w
    else (2 ^ 52 + fraction_bits w) * 2 ^ (exponent_bits w - 1)

-- the value of a finite word
unfoldable pub word_value : ℕ → Fraction
word_value w = record {
  over = if nat_le (2 ^ 63) w then neg_ℤ (pos (size_in_parts w)) else pos (size_in_parts w);
  under = parts_of_one;
}

-- n / 10 ^ k
unfoldable pub decimal_of : ℤ → ℕ → Fraction
decimal_of n k = record { over = n; under = 10 ^ k }
