-- the computed count is the whole number nearest to the size
use Rattle.std.proofs.Common.{◌≡◌, ℕ, zero, suc, ◌+◌, ◌-◌, ◌*◌, ◌/◌, ◌%◌, ◌^◌, ◌<◌, ◌≤◌, arith, sym, refl, ap, ◌∙◌, inl, inr}
use Rattle.std.proofs.Math.Pow.{pow_mono, pow_pos}
use Rattle.std.proofs.Math.Nat.{div-eq_of_lt, mod-eq_of_lt}
use Rattle.std.proofs.lemmas.Nat.{div-add-mod', mod_below}
use Rattle.std.proofs.lemmas.Bool.{cases_lt, cases_order, cases_eq, cond-true, cond-false, eq-eqb, ne_eqb}
use Rattle.ieee_words.specs.Word.{size_in_parts, fraction_bits, exponent_bits}
use Rattle.ieee_words.specs.Sizes.{IsNearestCount, IsRounded}
use Rattle.ieee_words.specs.NearWord.{nearest_whole}
use Rattle.ieee_words.specs.DecimalOfWord.{mantissa, count_size}
use Rattle.ieee_words.proofs.NearWords.{whole_below, whole_above, whole_tie}
use Rattle.ieee_words.proofs.Wholes.{size_without_exponent, size_with_exponent, nearest_from, nearest_none, wide_fits}

-- rounding a quotient by a power of two
module _ (wide down : ℕ) where
  d : ℕ
  d = 2 ^ down

  q : ℕ
  q = wide / d

  r : ℕ
  r = wide % d

  parts : q * d + r ≡ wide
  unfolding q r
  parts = div-add-mod' wide d

  below : r < d
  unfolding r d
  below = mod_below wide (2 ^ down) (pow_pos down)

  pub rounds : IsRounded wide down (nearest_whole wide (2 ^ down))
  unfolding d q r
  rounds = elim (cases_order (2 * r) d) [
    | inl e ↦ rw (whole_tie wide (2 ^ down) e) (even (q % 2) refl e)
    | inr (inl l) ↦ rw (whole_below wide (2 ^ down) l) (let p = parts in record { half = omega arith; tie_even = λ t. absurd (omega arith) })
    | inr (inr g) ↦ rw (whole_above wide (2 ^ down) g) (let p = parts in let b = below in record { half = omega arith; tie_even = λ t. absurd (omega arith) })
  ]
    where
      even : (z : ℕ) → wide / 2 ^ down % 2 ≡ z → 2 * (wide % 2 ^ down) ≡ 2 ^ down → IsRounded wide down (wide / 2 ^ down + wide / 2 ^ down % 2)
      even zero z e = let p : wide / 2 ^ down * 2 ^ down + wide % 2 ^ down ≡ wide = div-add-mod' wide (2 ^ down) in
          rw z (record { half = omega arith; tie_even = λ t. omega arith })
      even (suc zero) z e = let p : wide / 2 ^ down * 2 ^ down + wide % 2 ^ down ≡ wide = div-add-mod' wide (2 ^ down) in
          rw z (record { half = omega arith; tie_even = λ t. omega arith })
      even (suc (suc y)) z e = absurd (omega arith)

pub mantissa_zero : (w : ℕ) → exponent_bits w ≡ 0 → mantissa w ≡ 2 * fraction_bits w
mantissa_zero w e = cond-true _ _ _ (eq-eqb (exponent_bits w) 0 e)

pub mantissa_some : (w : ℕ) → (exponent_bits w ≡ 0 → ⊥) → mantissa w ≡ 2 ^ 52 + fraction_bits w
mantissa_some w h = cond-false _ _ _ (ne_eqb (exponent_bits w) 0 h)

-- the bits of the word without its sign
pub exponent_low : (w : ℕ) → w < 2 ^ 64 → exponent_bits w ≡ w % 2 ^ 63 / 2 ^ 52
exponent_low w h = elim (cases_lt w (2 ^ 63)) [
  | inl l ↦ let e : w % 2 ^ 63 ≡ w = omega arith in rw e (omega arith)
  | inr l ↦ let e : w % 2 ^ 63 ≡ w - 2 ^ 63 = omega arith in rw e (omega arith)
]

pub fraction_low : (w : ℕ) → w < 2 ^ 64 → fraction_bits w ≡ w % 2 ^ 63 % 2 ^ 52
fraction_low w h = elim (cases_lt w (2 ^ 63)) [
  | inl l ↦ let e : w % 2 ^ 63 ≡ w = omega arith in rw e refl
  | inr l ↦ let e : w % 2 ^ 63 ≡ w - 2 ^ 63 = omega arith in rw e (omega arith)
]

-- a number far below half of the divisor is rounded to 0
rounds_to_zero : (x d : ℕ) → 2 * x < d → nearest_whole x d ≡ 0
rounds_to_zero x d h =
    let m : x % d ≡ x = mod-eq_of_lt (omega arith) in
    let q : x / d ≡ 0 = div-eq_of_lt (omega arith) in
    whole_below x d (rw m h) ∙ q

pub count_is : (w k : ℕ) → k ≤ 9 → w < 2 ^ 64 → w % 2 ^ 63 < 0x41CD_CD65_0000_0000 → IsNearestCount (w % 2 ^ 63) (10 ^ k) (count_size w k)
count_is w k few fits small = elim (cases_eq (exponent_bits w) 0) [ inl e ↦ none e | inr n ↦ some n ]
  where
    u : ℕ
    u = w % 2 ^ 63

    fraction_small : fraction_bits w < 2 ^ 53
    fraction_small = let b : w % 2 ^ 52 < 2 ^ 52 = mod_below w (2 ^ 52) (omega arith) in omega arith

    far : 2 ^ 85 ≤ 2 ^ 1075
    far = pow_mono {i = 85} {j = 1075} (omega arith)

    scaled : (f t d : ℕ) → f * t < 2 ^ 83 → 2 ^ 85 ≤ d → 2 * (2 * f * t) < d
    scaled f t d h l = omega arith

    none : exponent_bits w ≡ 0 → IsNearestCount (w % 2 ^ 63) (10 ^ k) (count_size w k)
    none e =
        let z : w % 2 ^ 63 / 2 ^ 52 ≡ 0 = sym (exponent_low w fits) ∙ e in
        let s : size_in_parts (w % 2 ^ 63) ≡ fraction_bits w * 2 ^ 0 = size_without_exponent (w % 2 ^ 63) z ∙ ap (λ x. x * 1) (sym (fraction_low w fits)) in
        let f = wide_fits (fraction_bits w) k fraction_small few in
        let c : count_size w k ≡ 0 = rw (mantissa_zero w e, e) (rounds_to_zero (2 * fraction_bits w * 10 ^ k) (2 ^ 1075) (scaled (fraction_bits w) (10 ^ k) (2 ^ 1075) f far)) in
        rw c (nearest_none (w % 2 ^ 63) (10 ^ k) (fraction_bits w) 0 s (omega arith) f (omega arith))

    some : (exponent_bits w ≡ 0 → ⊥) → IsNearestCount (w % 2 ^ 63) (10 ^ k) (count_size w k)
    some n =
        let e = exponent_low w fits in
        let s : size_in_parts (w % 2 ^ 63) ≡ mantissa w * 2 ^ (exponent_bits w - 1) =
        size_with_exponent (w % 2 ^ 63) (omega arith) (λ z. n (e ∙ z))
        ∙ rw (mantissa_some w n, fraction_low w fits, e) (swap (w % 2 ^ 63 % 2 ^ 52) (2 ^ 52) (2 ^ (w % 2 ^ 63 / 2 ^ 52 - 1))) in
        let d : 1074 - (exponent_bits w - 1) ≡ 1075 - exponent_bits w = omega arith in
        nearest_from (w % 2 ^ 63) (10 ^ k) (mantissa w) (exponent_bits w - 1) s (omega arith) (count_size w k)
        (rw d (rounds (mantissa w * 10 ^ k) (1075 - exponent_bits w)))
      where
        swap : (a b p : ℕ) → (a + b) * p ≡ (b + a) * p
        swap a b p = ap (λ x. x * p) (let c : a + b ≡ b + a = omega arith in c)
