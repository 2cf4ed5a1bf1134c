-- Texts of numbers can be printed.
use Rattle.std.proofs.Common.{◌≡◌, ℕ, zero, suc, ◌+◌, ◌-◌, ◌/◌, ◌%◌, ◌^◌, ◌<◌, ◌≤◌, Bool, true, false, List, [], ◌∷◌, ◌++◌, ℤ, pos, negsuc, length, replicate, refl, ap, sym, ◌∙◌, inl, inr, arith}
use Rattle.std.specs.Prelude.{◌&&◌, decimal, unsigned_abs}
use Rattle.std.proofs.lemmas.Bool.{cases_lt, le-leb}
use Rattle.std.proofs.lemmas.Fmt.{decimal_by_steps, length-decimal-le}
use Rattle.decimal_coords.specs.Fixed.{fixed_text, places_text}
use Rattle.decimal_coords.proofs.Printing.{whole_smaller, unit_places, ten_some, fixed_plain, fixed_minus}
use Rattle.plug_stages.specs.Printing.{is_printable, are_printable}

pub printable_append : (a b : List ℕ) → are_printable (a ++ b) ≡ are_printable a && are_printable b
printable_append [] b = refl
printable_append (x ∷ a) b = go (is_printable x) (printable_append a b)
  where
    go : (p : Bool) → are_printable (a ++ b) ≡ are_printable a && are_printable b → p && are_printable (a ++ b) ≡ (p && are_printable a) && are_printable b
    go true ih = ih
    go false ih = refl

-- behind a text that can be printed
pub printable_behind : (a b : List ℕ) → are_printable b ≡ true → are_printable (a ++ b) ≡ are_printable a
printable_behind a b h = printable_append a b ∙ ap (λ z. are_printable a && z) h ∙ and_true (are_printable a)
  where
    and_true : (p : Bool) → p && true ≡ p
    and_true true = refl
    and_true false = refl

digit_printable : (d : ℕ) → d < 10 → are_printable ((48 + d) ∷ []) ≡ true
digit_printable d h = rw (le-leb 32 (48 + d) (omega arith), le-leb (48 + d) 126 (omega arith)) refl

pub decimal_printable : (n : ℕ) → n < 2 ^ 64 → are_printable (decimal n) ≡ true
decimal_printable = decimal_by_steps (λ m ds. are_printable ds ≡ true) (λ m l. digit_printable m l)
    (λ m ds l h. printable_behind ds ((48 + m % 10) ∷ []) (digit_printable (m % 10) (omega arith)) ∙ h)

pub decimal_few : (n : ℕ) → n < 1000 → length (decimal n) ≤ 3
decimal_few n h = length-decimal-le 3 n (omega arith) h (omega (arith, h))

zeros_printable : (k : ℕ) → are_printable (replicate k 48) ≡ true
zeros_printable zero = refl
zeros_printable (suc k) = zeros_printable k

-- digits before and behind a point
places_printable : (n : ℕ) → n / 10 ^ 3 < 2 ^ 64 → are_printable (places_text 3 n) ≡ true
places_printable n h =
    let part : are_printable (replicate (3 - length (decimal (n % 10 ^ 3))) 48 ++ decimal (n % 10 ^ 3)) ≡ true =
    printable_behind (replicate (3 - length (decimal (n % 10 ^ 3))) 48) (decimal (n % 10 ^ 3)) (decimal_printable (n % 10 ^ 3) (omega arith))
    ∙ zeros_printable (3 - length (decimal (n % 10 ^ 3))) in
    printable_behind (decimal (n / 10 ^ 3)) (46 ∷ (replicate (3 - length (decimal (n % 10 ^ 3))) 48 ++ decimal (n % 10 ^ 3))) part
    ∙ decimal_printable (n / 10 ^ 3) h

-- the size of a number of nanounits, rounded to 3 places
abbrev size : ℕ → ℕ
size s = (s + 10 ^ 6 / 2) / 10 ^ 6

size_printable : (s : ℕ) → s ≤ 2 ^ 63 → are_printable (places_text 3 (size s)) ≡ true
size_printable s h = places_printable (size s) (let w = whole_smaller s (10 ^ 6) (10 ^ 3) h (unit_places 3 (omega arith)) (ten_some 3) in omega (arith, w))

pub fixed_printable : (z : ℤ) → unsigned_abs z ≤ 2 ^ 63 → are_printable (fixed_text z 3) ≡ true
fixed_printable (pos s) h = ap are_printable (sym (fixed_plain (pos s) s (10 ^ 6) 3 refl (inl refl))) ∙ size_printable s h
fixed_printable (negsuc n) h = elim (cases_lt 0 (size (suc n))) [
  | inl some ↦ ap are_printable (sym (fixed_minus (negsuc n) (suc n) (10 ^ 6) 3 refl refl some)) ∙ size_printable (suc n) h
  | inr none ↦ ap are_printable (sym (fixed_plain (negsuc n) (suc n) (10 ^ 6) 3 refl (inr (refl, omega arith)))) ∙ size_printable (suc n) h
]
