-- the order numbers of finite words grow with their values
use Rattle.std.proofs.Common.{◌≡◌, ℕ, ◌+◌, ◌-◌, ◌*◌, ◌^◌, ◌<◌, ◌≤◌, arith, inl, inr, pos, neg_ℤ, ◌*ℤ◌, ◌<ℤ◌}
use Rattle.std.proofs.Math.Nat.{mul-le-mul_right}
use Rattle.std.proofs.lemmas.Bool.{cases_lt}
use Rattle.std.proofs.lemmas.Bool.Decides.{nat_tests}
use Rattle.std.proofs.lemmas.Int.{ints}
use Rattle.ieee_words.specs.Word.{size_in_parts, parts_of_one, word_value, IsFinite}
use Rattle.ieee_words.specs.Order.{order_number, IsBelow}
use Rattle.ieee_words.proofs.Sizes.{size_mono}
use Rattle.ieee_words.proofs.Signed.{neg_mul, over_positive, over_negative, size_unsigned, finite_positive, finite_negative}

less_back : (x y : ℕ) → pos x <ℤ pos y → x < y
less_back x y h = omega (arith, ints)

less_flip : (x y : ℕ) → neg_ℤ (pos x) <ℤ neg_ℤ (pos y) → y < x
less_flip x y h = omega (arith, ints)

not_less : (x y : ℕ) → pos x <ℤ neg_ℤ (pos y) → ⊥
not_less x y h = omega (arith, ints)

number_positive : (w : ℕ) → w < 2 ^ 63 → order_number w ≡ w + 2 ^ 63
number_positive w h = grind (arith, nat_tests)

number_negative : (w : ℕ) → 2 ^ 63 ≤ w → order_number w ≡ 2 ^ 64 - 1 - w
number_negative w h = grind (arith, nat_tests)

module _ (w v : ℕ) (fw : IsFinite w) (fv : IsFinite v) (below : IsBelow (word_value w) (word_value v)) where
  over_below : ((word_value w).over *ℤ pos parts_of_one) <ℤ ((word_value v).over *ℤ pos parts_of_one)
  unfolding word_value
  over_below = below

  both_positive : w < 2 ^ 63 → v < 2 ^ 63 → w < v
  both_positive h k =
      let l : size_in_parts w * parts_of_one < size_in_parts v * parts_of_one =
      less_back _ _ (rw (over_positive w h, over_positive v k) at over_below) in
      elim (cases_lt w v) [
        | inl i ↦ i
        | inr i ↦ let m : size_in_parts v * parts_of_one ≤ size_in_parts w * parts_of_one =
            mul-le-mul_right parts_of_one (size_mono v w i (let f = finite_positive w fw h in omega arith)) in absurd (omega arith)
      ]

  both_negative : 2 ^ 63 ≤ w → 2 ^ 63 ≤ v → v < w
  both_negative h k =
      let l : size_in_parts v * parts_of_one < size_in_parts w * parts_of_one =
      less_flip _ _ (rw (over_negative w h, over_negative v k, neg_mul (size_in_parts w) parts_of_one, neg_mul (size_in_parts v) parts_of_one) at over_below) in
      let sw = size_unsigned w h fw.0 in
      let sv = size_unsigned v k fv.0 in
      let n : size_in_parts (v - 2 ^ 63) * parts_of_one < size_in_parts (w - 2 ^ 63) * parts_of_one = rw (← sw, ← sv) l in
      elim (cases_lt v w) [
        | inl i ↦ i
        | inr i ↦ let m : size_in_parts (w - 2 ^ 63) * parts_of_one ≤ size_in_parts (v - 2 ^ 63) * parts_of_one =
            mul-le-mul_right parts_of_one (size_mono (w - 2 ^ 63) (v - 2 ^ 63) (omega arith) (let f = finite_negative v fv k in omega arith)) in absurd (omega arith)
      ]

  not_across : w < 2 ^ 63 → 2 ^ 63 ≤ v → ⊥
  not_across h k = not_less _ _ (rw (over_positive w h, over_negative v k, neg_mul (size_in_parts v) parts_of_one) at over_below)

  pub order_keeps : order_number w < order_number v
  order_keeps = elim (cases_lt w (2 ^ 63)) [
    | inl h ↦ elim (cases_lt v (2 ^ 63)) [
      | inl k ↦ let l = both_positive h k in rw (number_positive w h, number_positive v k) (omega arith)
      | inr k ↦ absurd (not_across h k)
    ]
    | inr h ↦ elim (cases_lt v (2 ^ 63)) [
      | inl k ↦ rw (number_negative w h, number_positive v k) (let f = fw.0 in omega arith)
      | inr k ↦ let l = both_negative h k in let f = fw.0 in rw (number_negative w h, number_negative v k) (omega arith)
    ]
  ]
