-- the whole number nearest to a word's value times a power of ten
use Rattle.std.proofs.Common.{◌≡◌, ℕ, ◌+◌, ◌-◌, ◌*◌, ◌/◌, ◌%◌, ◌^◌, ◌<◌, ◌≤◌, arith, sym, ap, ◌∙◌, inl, inr}
use Rattle.std.proofs.Math.Pow.{pow_mono, pow_pos}
use Rattle.std.proofs.Math.Nat.{mul-le-mul_right, mul-lt-mul_of_pos_right, le_of_mul-le-mul_right, pow-le-pow_right}
use Rattle.std.proofs.lemmas.Nat.{div-add-mod', mod_below, div_below}
use Rattle.std.proofs.lemmas.Bool.{cases_lt}
use Rattle.ieee_words.specs.Word.{size_in_parts, parts_of_one}
use Rattle.ieee_words.specs.Sizes.{apart, IsRounded, IsNearestCount}
use Rattle.ieee_words.proofs.Bits.{pow_sum}
use Rattle.ieee_words.proofs.Sizes.{size_small, size_normal, size_mono}
use Rattle.ieee_words.proofs.Unique.{ten_some, sizes_grow}
use Rattle.ieee_words.proofs.Rounded.{parts_some}

pub size_without_exponent : (u : ℕ) → u / 2 ^ 52 ≡ 0 → size_in_parts u ≡ u % 2 ^ 52 * 1
size_without_exponent u e =
    let s : u / 2 ^ 52 * 2 ^ 52 + u % 2 ^ 52 ≡ u = div-add-mod' u (2 ^ 52) in
    let b : u % 2 ^ 52 < 2 ^ 52 = mod_below u (2 ^ 52) (omega arith) in
    size_small u (omega arith) ∙ omega arith

pub size_with_exponent : (u : ℕ) → u < 2047 * 2 ^ 52 → (u / 2 ^ 52 ≡ 0 → ⊥) →
    size_in_parts u ≡ (u % 2 ^ 52 + 2 ^ 52) * 2 ^ (u / 2 ^ 52 - 1)
size_with_exponent u h n =
    let s : u / 2 ^ 52 * 2 ^ 52 + u % 2 ^ 52 ≡ u = div-add-mod' u (2 ^ 52) in
    let b : u % 2 ^ 52 < 2 ^ 52 = mod_below u (2 ^ 52) (omega arith) in
    let e : u ≡ (u / 2 ^ 52 - 1) * 2 ^ 52 + (u % 2 ^ 52 + 2 ^ 52) = omega arith in
    ap size_in_parts e ∙ size_normal (u / 2 ^ 52 - 1) (u % 2 ^ 52 + 2 ^ 52) (omega arith) (omega arith) (omega arith)

-- 2 ^ 1074 as the two powers of a shift
parts_split : (up : ℕ) → up ≤ 1051 → 2 ^ (1074 - up) * 2 ^ up ≡ parts_of_one
unfolding parts_of_one
parts_split up h = pow_sum (1074 - up) up 1074 (omega arith)

pub shifted_small : (wide down : ℕ) → wide < 2 ^ 83 → 23 ≤ down → wide / 2 ^ down < 2 ^ 60
shifted_small wide down h l =
    let p : 2 ^ 23 ≤ 2 ^ down = pow_mono l in
    let q : 2 ^ 60 * 2 ^ 23 ≤ 2 ^ 60 * 2 ^ down = mul_le (2 ^ 60) (2 ^ 23) (2 ^ down) p in
    div_below wide (2 ^ down) (2 ^ 60) (pow_pos down) (omega arith)
  where
    mul_le : (c a b : ℕ) → a ≤ b → c * a ≤ c * b
    mul_le c a b g = let m : a * c ≤ b * c = mul-le-mul_right c g in omega arith

pub scaled_apart : (x y p : ℕ) → (x * p - y * p) + (y * p - x * p) ≡ ((x - y) + (y - x)) * p
scaled_apart x y p = elim (cases_lt x y) [
  | inl h ↦ let d : y ≡ x + (y - x) = omega arith in
      let m : y * p ≡ (x + (y - x)) * p = ap (λ z. z * p) d in
      let z : (x - y) ≡ 0 = omega arith in
      rw z (omega arith)
  | inr h ↦ let d : x ≡ y + (x - y) = omega arith in
      let m : x * p ≡ (y + (x - y)) * p = ap (λ z. z * p) d in
      let z : (y - x) ≡ 0 = omega arith in
      rw z (omega arith)
]

module _ (u t kept up : ℕ) (is : size_in_parts u ≡ kept * 2 ^ up) (high : up ≤ 1051) where
  apart_scaled : (n : ℕ) → apart n t u ≡ ((n * 2 ^ (1074 - up) - kept * t) + (kept * t - n * 2 ^ (1074 - up))) * 2 ^ up
  apart_scaled n =
      let p : n * parts_of_one ≡ n * 2 ^ (1074 - up) * 2 ^ up = ap (λ z. n * z) (sym (parts_split up high)) ∙ omega arith in
      let q : size_in_parts u * t ≡ kept * t * 2 ^ up = ap (λ z. z * t) is ∙ omega arith in
      rw (p, q) (scaled_apart (n * 2 ^ (1074 - up)) (kept * t) (2 ^ up))

  pub nearest_from : (n : ℕ) → IsRounded (kept * t) (1074 - up) n → IsNearestCount u t n
  nearest_from n r =
      let e = apart_scaled n in
      let d : ℕ = (n * 2 ^ (1074 - up) - kept * t) + (kept * t - n * 2 ^ (1074 - up)) in
      let g : 2 * d * 2 ^ up ≤ 2 ^ (1074 - up) * 2 ^ up = mul-le-mul_right (2 ^ up) r.half in
      let s = parts_split up high in
      record {
        half = omega arith;
        tie_even = λ z. r.tie_even (cancel (2 * d) (2 ^ (1074 - up)) (2 ^ up) (pow_pos up) (omega arith));
      }
    where
      cancel : (x y p : ℕ) → 0 < p → x * p ≡ y * p → x ≡ y
      cancel x y p h k =
          let a : x ≤ y = le_of_mul-le-mul_right {k = p} (omega arith) h in
          let b : y ≤ x = le_of_mul-le-mul_right {k = p} (omega arith) h in omega arith

  pub nearest_none : kept * t < 2 ^ 83 → 84 < 1074 - up → IsNearestCount u t 0
  nearest_none small far =
      let s = parts_split up high in
      let q : size_in_parts u * t ≡ kept * t * 2 ^ up = ap (λ z. z * t) is ∙ omega arith in
      let m : 2 ^ 84 ≤ 2 ^ (1074 - up) = pow_mono {i = 84} {j = 1074 - up} (omega arith) in
      let g : 2 * (kept * t) * 2 ^ up < 2 ^ (1074 - up) * 2 ^ up = mul-lt-mul_of_pos_right (omega arith) (pow_pos up) in
      record { half = omega arith; tie_even = λ z. absurd (omega arith) }

-- the word of 10 ^ 9
pub large_word : size_in_parts 0x41CD_CD65_0000_0000 ≡ 10 ^ 9 * parts_of_one
unfolding parts_of_one
large_word =
    let p : 2 ^ 23 * 2 ^ 1051 ≡ 2 ^ 1074 = pow_sum 23 1051 1074 (omega arith) in
    size_normal 1051 (10 ^ 9 * 2 ^ 23) (omega arith) (omega arith) (omega arith) ∙ by_parts (10 ^ 9) (2 ^ 23) (2 ^ 1051) (2 ^ 1074) p
  where
    by_parts : (a b c d : ℕ) → b * c ≡ d → a * b * c ≡ a * d
    by_parts a b c d e = omega (arith, ap (λ z. a * z) e)

pub below_large : (u : ℕ) → u < 0x41CD_CD65_0000_0000 → size_in_parts u < 10 ^ 9 * parts_of_one
below_large u h = let s = sizes_grow u 0x41CD_CD65_0000_0000 h (omega arith) in let e = large_word in omega arith

pub from_large : (u : ℕ) → 0x41CD_CD65_0000_0000 ≤ u → u < 2047 * 2 ^ 52 → 10 ^ 9 * parts_of_one ≤ size_in_parts u
from_large u h k = let s = size_mono 0x41CD_CD65_0000_0000 u h (omega arith) in let e = large_word in omega arith

pub whole_bound : (u k n : ℕ) → u < 0x41CD_CD65_0000_0000 → IsNearestCount u (10 ^ k) n → n ≤ 10 ^ 9 * 10 ^ k
whole_bound u k n h r =
    let t : ℕ = 10 ^ k in
    let b : size_in_parts u * t < 10 ^ 9 * parts_of_one * t = mul-lt-mul_of_pos_right (below_large u h) (ten_some k) in
    let f = r.half in
    let p = parts_some in
    elim (cases_lt (10 ^ 9 * t) n) [
      | inl l ↦ let m : (10 ^ 9 * t + 1) * parts_of_one ≤ n * parts_of_one = mul-le-mul_right parts_of_one (omega arith) in absurd (omega arith)
      | inr l ↦ l
    ]

pub wide_fits : (kept k : ℕ) → kept < 2 ^ 53 → k ≤ 9 → kept * 10 ^ k < 2 ^ 83
wide_fits kept k h few =
    let p : 10 ^ k ≤ 10 ^ 9 = pow-le-pow_right (omega arith) few in
    let q : kept * 10 ^ k < 2 ^ 53 * 10 ^ k = mul-lt-mul_of_pos_right h (ten_some k) in
    omega arith
