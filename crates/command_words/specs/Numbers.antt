-- Numbers as words.
use Rattle.std.specs.Prelude.{◌≡◌, ◌≤◌, ◌&&◌, ◌||◌, ◌==◌, ℕ, Bool, true, not, nat_le, List, length, slice_index, Option, Some, None, if◌then◌else◌}
use Rattle.std.specs.Str.{all_ascii_digits}
use Rattle.std.specs.Str.Parse.{digits_value}

-- digits, with no zero (48) before others
abbrev pub is_numeral : List ℕ → Bool
is_numeral word = not (length word == 0) && all_ascii_digits word && (length word == 1 || not (slice_index word 0 == 48))

-- a word writes a number within bounds
pub record IsNumber (least most : ℕ) (word : List ℕ) (n : ℕ) : Type 0 where
  pub numeral : is_numeral word ≡ true
  pub value : digits_value 10 word ≡ n
  pub from : least ≤ n
  pub up_to : n ≤ most

-- the number that a word writes
abbrev pub number_in : ℕ → ℕ → List ℕ → Option ℕ
number_in least most word = let n = digits_value 10 word in if is_numeral word && nat_le least n && nat_le n most then Some n else None
