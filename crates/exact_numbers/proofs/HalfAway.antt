-- `half_away` is a rounding half away from zero
use Rattle.std.proofs.Common.{◌≡◌, ℕ, zero, suc, ◌+◌, ◌-◌, ◌*◌, ◌/◌, ◌%◌, ◌^◌, ◌<◌, ◌≤◌, arith, sym, refl, ap, ◌∙◌, inl, inr, ℤ, pos, neg_ℤ, negsuc, ◌*ℤ◌, ◌-ℤ◌}
use Rattle.std.specs.Prelude.{unsigned_abs}
use Rattle.std.proofs.Math.Nat.{mul-le-mul_right}
use Rattle.std.proofs.lemmas.Nat.{div-add-mod', mod_below, div_below}
use Rattle.std.proofs.lemmas.Bool.{cases_order}
use Rattle.exact_numbers.specs.Rounding.{IsHalfAway, half_away}
use Rattle.exact_numbers.proofs.Integers.{neg_mul, abs_diff, abs_flip, abs_neg}

module _ (s d : ℕ) (some : 0 < d) where
  q : ℕ
  q = (2 * s + d) / (2 * d)

  parts : q * (2 * d) + (2 * s + d) % (2 * d) ≡ 2 * s + d
  unfolding q
  parts = div-add-mod' (2 * s + d) (2 * d)

  half : 2 * ((s - q * d) + (q * d - s)) ≤ d
  half = let p = parts in let m = mod_below (2 * s + d) (2 * d) (omega arith) in omega arith

  away : 2 * ((s - q * d) + (q * d - s)) ≡ d → s < q * d
  away e = let p = parts in let m = mod_below (2 * s + d) (2 * d) (omega arith) in omega arith

  pub rounds_positive : IsHalfAway (pos s) d (pos ((2 * s + d) / (2 * d)))
  unfolding q
  rounds_positive =
      let e : unsigned_abs (pos s -ℤ pos (q * d)) ≡ (s - q * d) + (q * d - s) = abs_diff s (q * d) in
      record { half = rw e half; away = λ t. away (sym (ap (λ z. 2 * z) e) ∙ t) }

  pub rounds_negative : IsHalfAway (neg_ℤ (pos s)) d (neg_ℤ (pos ((2 * s + d) / (2 * d))))
  unfolding q
  rounds_negative =
      let e : unsigned_abs (neg_ℤ (pos s) -ℤ neg_ℤ (pos q) *ℤ pos d) ≡ (s - q * d) + (q * d - s) = rw neg_mul (abs_flip s (q * d)) in
      record { half = rw e half; away = λ t. rw (abs_neg s, abs_neg q) (away (sym (ap (λ z. 2 * z) e) ∙ t)) }

  -- half of the divisor may be cut off before it is added
  pub half_cut_off : (s + d / 2) / d ≡ (2 * s + d) / (2 * d)
  unfolding q
  half_cut_off =
      let p : ℕ = (s + d / 2) / d in
      let e : p * d + (s + d / 2) % d ≡ s + d / 2 = div-add-mod' (s + d / 2) d in
      let m = mod_below (s + d / 2) d some in
      let f = parts in
      let n = mod_below (2 * s + d) (2 * d) (omega arith) in
      elim (cases_order p q) [
        | inl g ↦ g
        | inr (inl l) ↦ let t : (p + 1) * d ≤ q * d = mul-le-mul_right d (omega arith) in absurd (omega arith)
        | inr (inr l) ↦ let t : (q + 1) * d ≤ p * d = mul-le-mul_right d (omega arith) in absurd (omega arith)
      ]

pub half_away_rounds : (num : ℤ) (d : ℕ) → 0 < d → IsHalfAway num d (half_away num d)
half_away_rounds (pos s) d some = rounds_positive s d some
half_away_rounds (negsuc s) d some = rounds_negative (suc s) d some

-- the answer of the code
pub is_positive : (num : ℤ) (s d : ℕ) → 0 < d → num ≡ pos s → pos ((s + d / 2) / d) ≡ half_away num d
is_positive num s d some e = rw (e, half_cut_off s d some) refl

pub is_negative : (num : ℤ) (s d : ℕ) → 0 < d → num ≡ neg_ℤ (pos s) → 0 < s → neg_ℤ (pos ((s + d / 2) / d)) ≡ half_away num d
is_negative num zero d some e h = absurd (omega arith)
is_negative num (suc s) d some e h = rw (e, half_cut_off (suc s) d some) refl

pub quotient_small : (s d : ℕ) → 0 < d → d ≤ 10 ^ 28 → s ≤ 10 ^ 37 → (s + d / 2) / d < 2 ^ 126
quotient_small s d some high h = div_below (s + d / 2) d (2 ^ 126) some (let m : 2 ^ 126 * 1 ≤ 2 ^ 126 * d = times d some in omega arith)
  where
    times : (d : ℕ) → 0 < d → 2 ^ 126 * 1 ≤ 2 ^ 126 * d
    times d h = omega arith
