-- of all words without a sign, one of the two round a size is nearest to it
use Rattle.std.proofs.Common.{◌≡◌, ℕ, ◌+◌, ◌*◌, ◌%◌, ◌^◌, ◌<◌, ◌≤◌, arith, inl, inr}
use Rattle.std.proofs.Math.Nat.{mul-le-mul_right, mul-lt-mul_of_pos_right}
use Rattle.std.proofs.lemmas.Bool.{cases_lt, cases_order}
use Rattle.ieee_words.specs.Word.{size_in_parts, parts_of_one}
use Rattle.ieee_words.specs.Sizes.{IsNearestSize, apart}
use Rattle.ieee_words.proofs.Sizes.{size_mono, size_grows}

module _ (a t u : ℕ) (some : 0 < t) (top : u + 1 < 2047 * 2 ^ 52)
    (low : size_in_parts u * t ≤ a * parts_of_one) (high : a * parts_of_one ≤ size_in_parts (u + 1) * t) where
  below : (v : ℕ) → v ≤ u → size_in_parts v * t ≤ size_in_parts u * t
  below v h = mul-le-mul_right t (size_mono v u h (omega arith))

  above : (v : ℕ) → u + 1 ≤ v → v < 2047 * 2 ^ 52 → size_in_parts (u + 1) * t ≤ size_in_parts v * t
  above v h k = mul-le-mul_right t (size_mono (u + 1) v h (omega arith))

  strictly_below : (v : ℕ) → v < u → size_in_parts v * t < size_in_parts u * t
  strictly_below v h =
      let g : size_in_parts v < size_in_parts (v + 1) = size_grows v (omega arith) in
      let m : size_in_parts (v + 1) ≤ size_in_parts u = size_mono (v + 1) u (omega arith) (omega arith) in
      mul-lt-mul_of_pos_right (omega arith) some

  strictly_above : (v : ℕ) → u + 1 < v → v < 2047 * 2 ^ 52 → size_in_parts (u + 1) * t < size_in_parts v * t
  strictly_above v h k =
      let g : size_in_parts (u + 1) < size_in_parts (u + 1 + 1) = size_grows (u + 1) (omega arith) in
      let m : size_in_parts (u + 1 + 1) ≤ size_in_parts v = size_mono (u + 1 + 1) v (omega arith) (omega arith) in
      mul-lt-mul_of_pos_right (omega arith) some

  -- the lower one, where it is no farther
  pub round_down : apart a t u ≤ apart a t (u + 1) → (apart a t u ≡ apart a t (u + 1) → u % 2 ≡ 0) → IsNearestSize a t u
  round_down near even = record {
    finite = omega arith;
    closest = λ v k. elim (cases_lt u v) [
      | inl h ↦ let x = above v (omega arith) k in omega arith
      | inr h ↦ let x = below v h in omega arith
    ];
    ties_even = λ v k other tie. elim (cases_order v u) [
      | inl e ↦ absurd (other e)
      | inr (inl h) ↦ let x = strictly_below v h in absurd (omega arith)
      | inr (inr h) ↦ let x = above v (omega arith) k in even (omega arith)
    ];
  }

  -- the upper one, where it is no farther
  pub round_up : apart a t (u + 1) ≤ apart a t u → (apart a t u ≡ apart a t (u + 1) → (u + 1) % 2 ≡ 0) → IsNearestSize a t (u + 1)
  round_up near even = record {
    finite = omega arith;
    closest = λ v k. elim (cases_lt u v) [
      | inl h ↦ let x = above v (omega arith) k in omega arith
      | inr h ↦ let x = below v h in omega arith
    ];
    ties_even = λ v k other tie. elim (cases_order v (u + 1)) [
      | inl e ↦ absurd (other e)
      | inr (inl h) ↦ let x = below v (omega arith) in even (omega arith)
      | inr (inr h) ↦ let x = strictly_above v h k in absurd (omega arith)
    ];
  }
