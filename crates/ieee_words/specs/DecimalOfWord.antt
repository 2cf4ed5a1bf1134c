-- the decimal and the scale of a word, computed
use Rattle.std.specs.Prelude.{ℕ, zero, suc, ◌+◌, ◌-◌, ◌*◌, ◌^◌, ◌<◌, ℤ, pos, neg_ℤ, ◌*ℤ◌, unsigned_abs, nat_lt, nat_le, ◌==◌, ◌&&◌, true, false, if◌then◌else◌, Option, Some, None, Result, Ok, Err}
use Rattle.ieee_words.specs.declared.decimals.Dec.{Dec}
use Rattle.ieee_words.specs.declared.decimals.WordFault.{WordFault}
use Rattle.ieee_words.specs.declared.decimals.WordFault.TheVariants.{NotFinite, TooLarge}
use Rattle.ieee_words.specs.Word.{fraction_bits, exponent_bits}
use Rattle.ieee_words.specs.NearWord.{nearest_whole, near_word}
use Rattle.ieee_words.specs.Dec.{IsDecimalOf}

-- the size of a finite word is mantissa / 2 ^ (1075 - exponent bits)
abbrev pub mantissa : ℕ → ℕ
mantissa w = if exponent_bits w == 0 then 2 * fraction_bits w else 2 ^ 52 + fraction_bits w

-- the whole number nearest to the size times 10 ^ k, for a size below 10 ^ 9
abbrev pub count_size : ℕ → ℕ → ℕ
count_size w k = nearest_whole (mantissa w * 10 ^ k) (2 ^ (1075 - exponent_bits w))

-- with the word's sign
abbrev pub count_of : ℕ → ℕ → ℤ
count_of w k = if nat_le (2 ^ 63) w then neg_ℤ (pos (count_size w k)) else pos (count_size w k)

-- n, where it has at most 15 digits and n / 10 ^ k has the word w
abbrev pub if_short : ℤ → ℕ → ℕ → Option ℤ
if_short n k w = if nat_lt (unsigned_abs n) (10 ^ 15) && (near_word n k == w) then Some n else None

-- the n of at most 15 digits for which n / 10 ^ k has this word
abbrev pub short_at : ℕ → ℕ → Option ℤ
short_at w k = if_short (count_of w k) k w

-- n / 10 ^ k in nanounits, or else another number
abbrev pub nano_or : ℕ → Option ℤ → Option ℤ → Option ℤ
nano_or k (Some n) other = Some (n *ℤ pos (10 ^ (9 - k)))
nano_or k None other = other

-- the short decimal in nanounits, by the fewest of the places from k on
abbrev pub shortest : ℕ → ℕ → ℕ → Option ℤ
shortest zero k w = None
shortest (suc more) k w = nano_or k (short_at w k) (shortest more (k + 1) w)

-- a short decimal, or else a rounded value
abbrev pub exact_or : Option ℤ → ℤ → Dec
exact_or (Some n) other = record { nano = n; exact = true }
exact_or None other = record { nano = other; exact = false }

-- the decimal of a word, or its refusal
unfoldable pub decimal_of_word : ℕ → Result Dec WordFault
decimal_of_word w = if exponent_bits w == 2047 then Err NotFinite
    else (if nat_le (10 ^ 9 * 2 ^ 1075) (mantissa w * 2 ^ exponent_bits w) then Err TooLarge
    else Ok (exact_or (shortest 10 0 w) (count_of w 9)))

-- a scale is from 1 to 10 ^ 9 nanounits
abbrev pub in_scale : Option ℤ → Option ℤ
in_scale (Some (pos n)) = if nat_lt 0 n && nat_le n (10 ^ 9) then Some (pos n) else None
in_scale _ = None

-- the scale in nanounits
unfoldable pub scale_of_word : ℕ → Option ℤ
scale_of_word w = in_scale (short_at w 9)

-- it is the decimal of the word
abbrev pub DecimalOfWordIsDecimal : Type 0
DecimalOfWordIsDecimal = (w : ℕ) → w < 2 ^ 64 → IsDecimalOf w (decimal_of_word w)
