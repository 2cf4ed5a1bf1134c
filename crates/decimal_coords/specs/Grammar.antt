-- the texts of decimals
use Rattle.std.specs.Prelude.{◌≡◌, ℕ, ◌+◌, ◌-◌, ◌*◌, ◌^◌, ◌<◌, ◌≤◌, List, [], ◌∷◌, ◌++◌, length, take, fold, Bool, true, false, ◌⊎◌, ⊤, ℤ, pos, neg_ℤ}

abbrev pub IsDigit : ℕ → Type 0
IsDigit b = (48 ≤ b) × (b ≤ 57)

abbrev pub AreDigits : List ℕ → Type 0
AreDigits [] = ⊤
AreDigits (b ∷ bs) = IsDigit b × AreDigits bs

-- `-` before a negative number, and nothing or `+` before another
abbrev pub IsSign : Bool → List ℕ → Type 0
IsSign true sign = sign ≡ 45 ∷ []
IsSign false sign = (sign ≡ []) ⊎ (sign ≡ 43 ∷ [])

-- an optional sign, digits, and perhaps a point and digits; one digit at least
pub record IsDecimalText (text : List ℕ) (negative : Bool) (whole part : List ℕ) : Type 0 where
  pub sign : List ℕ
  pub tail : List ℕ
  pub shown : text ≡ sign ++ (whole ++ tail)
  pub sign_is : IsSign negative sign
  pub tail_is : ((tail ≡ []) × (part ≡ [])) ⊎ (tail ≡ 46 ∷ part)
  pub whole_digits : AreDigits whole
  pub part_digits : AreDigits part
  pub some : 0 < length whole + length part

abbrev pub IsADecimal : List ℕ → Type 0
IsADecimal text = (negative : Bool) × (whole : List ℕ) × (part : List ℕ) × IsDecimalText text negative whole part

-- the text is the front of a decimal
abbrev pub CanGoOn : List ℕ → Type 0
CanGoOn text = (more : List ℕ) × IsADecimal (text ++ more)

-- the least place at which the text is the front of no decimal, or its length where it ends too early
pub record IsBadPlace (text : List ℕ) (at : ℕ) : Type 0 where
  pub within : at ≤ length text
  pub front : CanGoOn (take at text)
  pub stops : at < length text → ¬ CanGoOn (take (at + 1) text)
  pub early : at ≡ length text → ¬ IsADecimal text

-- the number that digits show
abbrev pub number_of : List ℕ → ℕ
number_of digits = fold (λ n b. n * 10 + (b - 48)) 0 digits

-- the size of a decimal of at most 9 places, in nanounits
abbrev pub nano_size : List ℕ → List ℕ → ℕ
nano_size whole part = number_of (whole ++ part) * 10 ^ (9 - length part)

abbrev pub with_sign : Bool → ℕ → ℤ
with_sign true size = neg_ℤ (pos size)
with_sign false size = pos size
