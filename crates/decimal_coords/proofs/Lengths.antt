-- how long a text with a fixed number of places is
use Rattle.std.proofs.Common.{◌≡◌, ℕ, suc, zero, ◌+◌, ◌-◌, ◌/◌, ◌^◌, ◌<◌, ◌≤◌, arith, refl, ap, inl, inr, ℤ, pos, negsuc, ◌∷◌, length}
use Rattle.std.specs.Prelude.{unsigned_abs}
use Rattle.std.proofs.lemmas.Bool.{cases_lt}
use Rattle.decimal_coords.specs.Fixed.{fixed_text, places_text}
use Rattle.decimal_coords.proofs.Printing.{whole_smaller, whole_shorter, unit_places, ten_some, fixed_plain, fixed_minus}
use Rattle.decimal_coords.proofs.Backward.{whole_text, length_parts, length_whole}

places_short : (p n : ℕ) → p ≤ 9 → n / 10 ^ p < 10 ^ 10 → length (places_text p n) ≤ 20
places_short zero n few h =
    let l = length_whole zero n refl h in
    let e = ap length (whole_text zero n refl) in omega arith
places_short (suc k) n few h =
    let l = whole_shorter (n / 10 ^ suc k) h in
    let e = length_parts (suc k) n (λ (q : suc k ≡ 0). absurd (omega arith)) few in omega arith

-- the size of the rounded number
abbrev rounded_size : ℕ → ℕ → ℕ
rounded_size p s = (s + 10 ^ (9 - p) / 2) / 10 ^ (9 - p)

rounded_short : (p s : ℕ) → p ≤ 9 → s ≤ 2 ^ 63 → length (places_text p (rounded_size p s)) ≤ 20
rounded_short p s few h = places_short p (rounded_size p s) few (whole_smaller s (10 ^ (9 - p)) (10 ^ p) h (unit_places p few) (ten_some p))

-- the text of a number of 64 bits
pub fixed_short : (z : ℤ) (p : ℕ) → p ≤ 9 → unsigned_abs z ≤ 2 ^ 63 → length (fixed_text z p) ≤ 21
fixed_short (pos s) p few h =
    let l = rounded_short p s few h in
    let e = ap length (fixed_plain (pos s) s (10 ^ (9 - p)) p refl (inl refl)) in omega arith
fixed_short (negsuc n) p few h =
    let l = rounded_short p (suc n) few h in
    elim (cases_lt 0 (rounded_size p (suc n))) [
      | inl some ↦ let e = ap length (fixed_minus (negsuc n) (suc n) (10 ^ (9 - p)) p refl refl some) in omega arith
      | inr none ↦ let e = ap length (fixed_plain (negsuc n) (suc n) (10 ^ (9 - p)) p refl (inr (refl, omega arith))) in omega arith
    ]
