-- a word below that of 10 ^ 9 has no decimal of 10 ^ 9 or more
use Rattle.std.proofs.Common.{◌≡◌, ℕ, zero, suc, ◌+◌, ◌-◌, ◌*◌, ◌%◌, ◌^◌, ◌<◌, ◌≤◌, arith, sym, ap, ◌∙◌, inl, inr, ℤ, pos, negsuc, ◌*ℤ◌}
use Rattle.std.specs.Prelude.{unsigned_abs}
use Rattle.std.proofs.Math.Pow.{pow-add, pow_pos}
use Rattle.std.proofs.Math.Nat.{mul-le-mul_right, mul-lt-mul_of_pos_right}
use Rattle.std.proofs.lemmas.Bool.{cases_lt}
use Rattle.std.proofs.lemmas.Int.{unsigned_abs-mul}
use Rattle.ieee_words.specs.Word.{size_in_parts, parts_of_one}
use Rattle.ieee_words.specs.Near.{IsNearest}
use Rattle.ieee_words.specs.Sizes.{IsNearestSize, IsNearestCount, apart}
use Rattle.ieee_words.proofs.Bits.{pow_sum}
use Rattle.ieee_words.proofs.Sizes.{size_normal, size_mono}
use Rattle.ieee_words.proofs.Unique.{ten_some, size_of_positive, size_of_negative}
use Rattle.ieee_words.proofs.Wholes.{below_large, large_word}

parts_split : 2 ^ 23 * 2 ^ 1051 ≡ parts_of_one
unfolding parts_of_one
parts_split = pow_sum 23 1051 1074 (omega arith)

-- the word before it is more than a nanounit below
pub nano_below : (u n : ℕ) → u < 0x41CD_CD65_0000_0000 → IsNearestCount u (10 ^ 9) n → n < 10 ^ 18
nano_below u n small r =
    let last : size_in_parts 0x41CD_CD64_FFFF_FFFF ≡ (10 ^ 9 * 2 ^ 23 - 1) * 2 ^ 1051 =
    size_normal 1051 (10 ^ 9 * 2 ^ 23 - 1) (omega arith) (omega arith) (omega arith) in
    let most : size_in_parts u ≤ size_in_parts 0x41CD_CD64_FFFF_FFFF = size_mono u 0x41CD_CD64_FFFF_FFFF (omega arith) (omega arith) in
    elim (cases_lt n (10 ^ 18)) [
      | inl l ↦ l
      | inr l ↦ let m : 10 ^ 18 * parts_of_one ≤ n * parts_of_one = mul-le-mul_right parts_of_one l in
          absurd (nearer (n * parts_of_one) (size_in_parts u) parts_of_one (2 ^ 1051) parts_split (pow_pos 1051) (omega arith) m r.half)
    ]
  where
    nearer : (x s p q : ℕ) → 2 ^ 23 * q ≡ p → 0 < q → s ≤ (10 ^ 9 * 2 ^ 23 - 1) * q → 10 ^ 18 * p ≤ x →
        2 * ((x - s * 10 ^ 9) + (s * 10 ^ 9 - x)) ≤ p → ⊥
    nearer x s p q e some most m half = omega arith

-- the word of 10 ^ 9 would be nearer
size_below : (a k u : ℕ) → u < 0x41CD_CD65_0000_0000 → IsNearestSize a (10 ^ k) u → a < 10 ^ 9 * 10 ^ k
size_below a k u small near = elim (cases_lt a (10 ^ 9 * 10 ^ k)) [
  | inl l ↦ l
  | inr l ↦
      let c : apart a (10 ^ k) u ≤ apart a (10 ^ k) 0x41CD_CD65_0000_0000 = near.closest 0x41CD_CD65_0000_0000 (omega arith) in
      let b : size_in_parts u * 10 ^ k < 10 ^ 9 * parts_of_one * 10 ^ k = mul-lt-mul_of_pos_right (below_large u small) (ten_some k) in
      let e : size_in_parts 0x41CD_CD65_0000_0000 * 10 ^ k ≡ 10 ^ 9 * parts_of_one * 10 ^ k = ap (λ x. x * 10 ^ k) large_word in
      let m : 10 ^ 9 * 10 ^ k * parts_of_one ≤ a * parts_of_one = mul-le-mul_right parts_of_one l in absurd (omega arith)
]

pub short_below : (n : ℤ) (k w : ℕ) → k ≤ 9 → w % 2 ^ 63 < 0x41CD_CD65_0000_0000 → IsNearest n k w → unsigned_abs n < 10 ^ 9 * 10 ^ k
short_below (pos zero) k w few small near = let t = ten_some k in omega arith
short_below (pos (suc a)) k w few small near =
    let x = size_of_positive (suc a) k w few (omega arith) near in
    let h : w < 2 ^ 63 = x.0 in size_below (suc a) k w (omega arith) x.1
short_below (negsuc a) k w few small near =
    let x = size_of_negative (suc a) k w few (omega arith) near in
    let h : 2 ^ 63 ≤ w = x.0 in
    let f : w < 2 ^ 64 = near.finite.0 in size_below (suc a) k (w - 2 ^ 63) (omega arith) x.1

-- so it is below 10 ^ 18 nanounits
pub scaled_below : (n : ℤ) (k p : ℕ) → k < 10 → unsigned_abs n < 10 ^ 9 * 10 ^ k → p ≡ 10 ^ (9 - k) → unsigned_abs (n *ℤ pos p) < 10 ^ 18
scaled_below n k p few h e =
    let t : 10 ^ k * 10 ^ (9 - k) ≡ 10 ^ 9 = sym (pow-add 10 k (9 - k)) ∙ ap (λ x. 10 ^ x) (let s : k + (9 - k) ≡ 9 = omega arith in s) in
    let m : unsigned_abs n * 10 ^ (9 - k) < 10 ^ 9 * 10 ^ k * 10 ^ (9 - k) = mul-lt-mul_of_pos_right h (ten_some (9 - k)) in
    rw (unsigned_abs-mul n (pos p), e) (product (unsigned_abs n * 10 ^ (9 - k)) (10 ^ 9) (10 ^ k) (10 ^ (9 - k)) m t)
  where
    product : (s a b c : ℕ) → s < a * b * c → b * c ≡ 10 ^ 9 → s < a * 10 ^ 9
    product s a b c l q = let r = ap (λ x. a * x) q in omega arith
