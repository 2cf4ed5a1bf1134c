-- the text of a rounded number, and how long its parts are
use Rattle.std.proofs.Common.{◌≡◌, ℕ, zero, suc, ◌+◌, ◌-◌, ◌*◌, ◌/◌, ◌%◌, ◌^◌, ◌<◌, ◌≤◌, arith, sym, refl, subst, ap, ◌∙◌, inl, inr, ◌⊎◌, ℤ, pos, neg_ℤ, ◌∷◌, ◌++◌, length}
use Rattle.std.specs.Prelude.{unsigned_abs, decimal}
use Rattle.std.proofs.Math.Pow.{pow-add}
use Rattle.std.proofs.Math.Nat.{mul-le-mul_right, one-le-pow, pow-le-pow_right, div-eq_of_lt}
use Rattle.std.proofs.lemmas.Nat.{div-add-mod', mod_below}
use Rattle.std.proofs.lemmas.Fmt.{length-decimal-le, length-decimal-le_wide}
use Rattle.exact_numbers.specs.Rounding.{half_away}
use Rattle.exact_numbers.proofs.HalfAway.{is_positive, is_negative}
use Rattle.decimal_coords.specs.Fixed.{fixed_text, places_text, minus_sign}

pub unit_places : (p : ℕ) → p ≤ 9 → 10 ^ (9 - p) * 10 ^ p ≡ 10 ^ 9
unit_places p h = sym (pow-add 10 (9 - p) p) ∙ ap (λ x. 10 ^ x) (let e : 9 - p + p ≡ 9 = omega arith in e)

pub ten_some : (k : ℕ) → 0 < 10 ^ k
ten_some k = one-le-pow k 10 (omega arith)

-- the part before the point, in nanounits, is not above the number and half a unit
whole_scaled : (s unit one : ℕ) → unit * one ≡ 10 ^ 9 → (s + unit / 2) / unit / one * 10 ^ 9 ≤ s + unit / 2
whole_scaled s unit one e =
    let q : ℕ = (s + unit / 2) / unit in
    let p : q * unit + (s + unit / 2) % unit ≡ s + unit / 2 = div-add-mod' (s + unit / 2) unit in
    let r : q / one * one + q % one ≡ q = div-add-mod' q one in
    let m : q / one * one * unit ≤ q * unit = mul-le-mul_right unit (omega arith) in
    let n : q / one * (unit * one) ≡ q / one * 10 ^ 9 = ap (λ z. q / one * z) e in
    omega arith

le_times : (a b : ℕ) → 0 < b → a ≤ a * b
le_times a b k = let t : 1 * a ≤ b * a = mul-le-mul_right a k in omega arith

-- no part before the point has more than 30 digits
pub whole_small : (s unit one : ℕ) → s ≤ 2 ^ 127 → unit * one ≡ 10 ^ 9 → 0 < one → (s + unit / 2) / unit / one < 10 ^ 30
whole_small s unit one h e o = let w = whole_scaled s unit one e in let x = le_times unit one o in omega arith

-- and of a number of 64 bits not more than 10
pub whole_smaller : (s unit one : ℕ) → s ≤ 2 ^ 63 → unit * one ≡ 10 ^ 9 → 0 < one → (s + unit / 2) / unit / one < 10 ^ 10
whole_smaller s unit one h e o = let w = whole_scaled s unit one e in let x = le_times unit one o in omega arith

pub whole_length : (n : ℕ) → n < 10 ^ 30 → length (decimal n) ≤ 30
whole_length n h = length-decimal-le_wide 30 n (omega arith) h (omega arith)

pub whole_shorter : (n : ℕ) → n < 10 ^ 10 → length (decimal n) ≤ 10
whole_shorter n h = length-decimal-le 10 n (omega arith) h (omega arith)

pub part_length : (n p : ℕ) → 0 < p → p ≤ 9 → length (decimal (n % 10 ^ p)) ≤ p
part_length n p some few =
    let u : 10 ^ p ≤ 10 ^ 9 = pow-le-pow_right (omega arith) few in
    let m : n % 10 ^ p < 10 ^ p = mod_below n (10 ^ p) (ten_some p) in
    length-decimal-le p (n % 10 ^ p) some m (omega arith)

half_away_negated : (s d : ℕ) → 0 < d → half_away (neg_ℤ (pos s)) d ≡ neg_ℤ (pos ((s + d / 2) / d))
half_away_negated zero d some =
    let e : (0 + d / 2) / d ≡ 0 = div-eq_of_lt (omega arith) in
    sym (is_positive (pos 0) 0 d some refl) ∙ rw e refl
half_away_negated (suc s) d some = sym (is_negative (neg_ℤ (pos (suc s))) (suc s) d some refl (omega arith))

fixed_from : (z n : ℤ) (p : ℕ) → half_away z (10 ^ (9 - p)) ≡ n → fixed_text z p ≡ minus_sign n ++ places_text p (unsigned_abs n)
fixed_from z n p e = ap (λ (x : ℤ). minus_sign x ++ places_text p (unsigned_abs x)) e

zero_text : (q p : ℕ) → q ≡ 0 → places_text p q ≡ minus_sign (neg_ℤ (pos q)) ++ places_text p (unsigned_abs (neg_ℤ (pos q)))
zero_text zero p e = refl
zero_text (suc q) p e = absurd (omega arith)

minus_text : (q p : ℕ) → 0 < q → 45 ∷ places_text p q ≡ minus_sign (neg_ℤ (pos q)) ++ places_text p (unsigned_abs (neg_ℤ (pos q)))
minus_text zero p h = absurd (omega arith)
minus_text (suc q) p h = refl

-- the size of the rounded number
abbrev rounded_size : ℕ → ℕ → ℕ
rounded_size s unit = (s + unit / 2) / unit

-- a number that is not negative, or is rounded to 0
pub fixed_plain : (z : ℤ) (s unit p : ℕ) → unit ≡ 10 ^ (9 - p) → (z ≡ pos s) ⊎ ((z ≡ neg_ℤ (pos s)) × ((s + unit / 2) / unit ≡ 0)) →
    places_text p ((s + unit / 2) / unit) ≡ fixed_text z p
fixed_plain z s unit p u c = rw u (elim c [
  | inl k ↦ sym (fixed_from z (pos (rounded_size s (10 ^ (9 - p)))) p (sym (is_positive z s (10 ^ (9 - p)) (ten_some (9 - p)) k)))
  | inr k ↦ zero_text (rounded_size s (10 ^ (9 - p))) p (subst (λ x. rounded_size s x ≡ 0) u k.1)
      ∙ sym (fixed_from z (neg_ℤ (pos (rounded_size s (10 ^ (9 - p))))) p (rw k.0 (half_away_negated s (10 ^ (9 - p)) (ten_some (9 - p)))))
])

-- a number that is rounded to one below 0
pub fixed_minus : (z : ℤ) (s unit p : ℕ) → unit ≡ 10 ^ (9 - p) → z ≡ neg_ℤ (pos s) → 0 < (s + unit / 2) / unit →
    45 ∷ places_text p ((s + unit / 2) / unit) ≡ fixed_text z p
fixed_minus z s unit p u k some = rw u (minus_text (rounded_size s (10 ^ (9 - p))) p (subst (λ x. 0 < rounded_size s x) u some)
    ∙ sym (fixed_from z (neg_ℤ (pos (rounded_size s (10 ^ (9 - p))))) p (rw k (half_away_negated s (10 ^ (9 - p)) (ten_some (9 - p))))))
