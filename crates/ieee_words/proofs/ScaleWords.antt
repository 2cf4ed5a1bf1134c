-- the scale of a word
use Rattle.std.proofs.Common.{◌≡◌, ℕ, ◌+◌, ◌-◌, ◌*◌, ◌%◌, ◌^◌, ◌<◌, ◌≤◌, arith, sym, subst, ap, ◌∙◌, inl, inr, ℤ, pos, negsuc, ◌≤ℤ◌}
use Rattle.std.proofs.Math.Pow.{pow-add}
use Rattle.std.proofs.Math.Nat.{mul-le-mul_right}
use Rattle.std.proofs.lemmas.Bool.{cases_lt}
use Rattle.std.proofs.lemmas.Int.{ints}
use Rattle.ieee_words.specs.Word.{size_in_parts, parts_of_one}
use Rattle.ieee_words.specs.Near.{IsNearest, IsShort}
use Rattle.ieee_words.specs.Sizes.{apart}
use Rattle.ieee_words.specs.Scale.{IsScaleOf, HasScale}
use Rattle.ieee_words.proofs.Bits.{pow_sum}
use Rattle.ieee_words.proofs.Sizes.{size_normal}
use Rattle.ieee_words.proofs.Unique.{ten_some, size_of_positive}
use Rattle.ieee_words.proofs.Rounded.{parts_some}
use Rattle.ieee_words.proofs.Wholes.{from_large}
use Rattle.ieee_words.proofs.Scaling.{near_scaled}
use Rattle.ieee_words.proofs.OneDecimal.{one_short}

-- the word of 1
one_word : size_in_parts 0x3FF0_0000_0000_0000 ≡ parts_of_one
unfolding parts_of_one
one_word = size_normal 1022 (2 ^ 52) (omega arith) (omega arith) (omega arith) ∙ pow_sum 52 1022 1074 (omega arith)

-- a large word is farther from a scale than the word of 1
not_large : (n k w : ℕ) → k ≤ 9 → 1 ≤ n → n ≤ 10 ^ k → IsNearest (pos n) k w → w < 0x41CD_CD65_0000_0000
not_large n k w few low high near = elim (cases_lt w 0x41CD_CD65_0000_0000) [
  | inl h ↦ h
  | inr h ↦
      let t : ℕ = 10 ^ k in
      let s = size_of_positive n k w few low near in
      let c : apart n t w ≤ apart n t 0x3FF0_0000_0000_0000 = s.1.closest 0x3FF0_0000_0000_0000 (omega arith) in
      let o : size_in_parts 0x3FF0_0000_0000_0000 * t ≡ parts_of_one * t = ap (λ x. x * t) one_word in
      let f = s.1.finite in
      let l : 10 ^ 9 * parts_of_one * t ≤ size_in_parts w * t = mul-le-mul_right t (from_large w h f) in
      let m : n * parts_of_one ≤ t * parts_of_one = mul-le-mul_right parts_of_one high in
      let p : 1 * parts_of_one ≤ t * parts_of_one = mul-le-mul_right parts_of_one (ten_some k) in
      let d = parts_some in
      absurd (omega arith)
]

pub scale_small : (w : ℕ) → HasScale w → w < 0x41CD_CD65_0000_0000
scale_small w (n, k, few, low, high, near) = not_large n k w few low high near

-- at 9 places
pub scale_short : (w : ℕ) → HasScale w → (n : ℕ) × (1 ≤ n) × (n ≤ 10 ^ 9) × IsShort w (pos n) 9
scale_short w (n, k, few, low, high, near) =
    let e : k + (9 - k) ≡ 9 = omega arith in
    let p : 10 ^ k * 10 ^ (9 - k) ≡ 10 ^ 9 = sym (pow-add 10 k (9 - k)) ∙ ap (λ x. 10 ^ x) e in
    let h : n * 10 ^ (9 - k) ≤ 10 ^ k * 10 ^ (9 - k) = mul-le-mul_right (10 ^ (9 - k)) high in
    let l : 1 * 10 ^ (9 - k) ≤ n * 10 ^ (9 - k) = mul-le-mul_right (10 ^ (9 - k)) low in
    let s = ten_some (9 - k) in (
      n * 10 ^ (9 - k),
      omega arith,
      omega arith,
      record {
        places = omega arith;
        digits = omega arith;
        near = subst (λ j. IsNearest (pos (n * 10 ^ (9 - k))) j w) e (near_scaled (pos n) k (9 - k) w few near);
      },
    )

-- the one short decimal of 9 places is the scale
pub scale_in_range : (w : ℕ) (n : ℤ) → w < 2 ^ 63 → IsShort w n 9 → HasScale w → (pos 1 ≤ℤ n) × (n ≤ℤ pos (10 ^ 9))
scale_in_range w n h s scale =
    let t = scale_short w scale in
    let small = scale_small w scale in
    let m : w % 2 ^ 63 ≡ w = omega arith in
    let e : pos t.0 ≡ n = one_short w 9 (pos t.0) n (omega arith) (omega arith) t.3 s in
    let x : (pos 1 ≤ℤ pos t.0) × (pos t.0 ≤ℤ pos (10 ^ 9)) = range t.0 t.1 t.2 in
    subst (λ (z : ℤ). (pos 1 ≤ℤ z) × (z ≤ℤ pos (10 ^ 9))) e x
  where
    range : (n : ℕ) → 1 ≤ n → n ≤ 10 ^ 9 → (pos 1 ≤ℤ pos n) × (pos n ≤ℤ pos (10 ^ 9))
    range n h k = (omega (arith, ints), omega (arith, ints))

pub has_scale : (w : ℕ) (n : ℤ) → IsScaleOf w n → HasScale w
has_scale w (pos n) s = (n, 9, omega arith, omega (arith, ints, s.low), omega (arith, ints, s.high), s.near)
has_scale w (negsuc n) s = absurd (omega (arith, ints, s.low))

pub short : (w : ℕ) (n : ℤ) → IsScaleOf w n → IsShort w n 9
short w n s = record { places = omega arith; digits = omega (arith, ints, s.low, s.high); near = s.near }

pub one_scale : (w : ℕ) (n m : ℤ) → IsScaleOf w n → IsScaleOf w m → n ≡ m
one_scale w n m p q =
    let small = scale_small w (has_scale w n p) in
    let e : w % 2 ^ 63 ≡ w = omega arith in
    one_short w 9 n m (omega arith) (omega arith) (short w n p) (short w m q)
