-- rounding by the bits that were cut off gives the nearest word
use Rattle.std.proofs.Common.{◌≡◌, ℕ, ◌+◌, ◌-◌, ◌*◌, ◌%◌, ◌^◌, ◌<◌, ◌≤◌, arith, sym, ap, ◌∙◌, inl, inr, ◌⊎◌}
use Rattle.std.proofs.Math.Pow.{pow-add, pow_pos}
use Rattle.std.proofs.Math.Nat.{mul-le-mul_right, mul-lt-mul_of_pos_right, le_of_mul-le-mul_right, lt_of_mul-lt-mul_right}
use Rattle.std.proofs.lemmas.Bool.{cases_lt}
use Rattle.ieee_words.specs.Word.{size_in_parts, parts_of_one}
use Rattle.ieee_words.specs.Sizes.{IsNearestSize, apart}
use Rattle.ieee_words.proofs.Sizes.{size_normal, size_step}
use Rattle.ieee_words.proofs.Nearest.{round_down, round_up}

parts_scaled : (j s d : ℕ) → j + s ≡ d + 1074 → 2 ^ j * 2 ^ s ≡ 2 ^ d * parts_of_one
unfolding parts_of_one
parts_scaled j s d e = sym (pow-add 2 j s) ∙ ap (λ x. 2 ^ x) e ∙ pow-add 2 d 1074

pub parts_some : 0 < parts_of_one
unfolding parts_of_one
parts_some = pow_pos 1074

-- size * 2 ^ s is (m * 2 ^ d + c) * t + r, whose 53 leading bits are m
module _ (a t s q r m d c h : ℕ) (is_q : a * 2 ^ s ≡ q * t + r) (r_small : r < t) (is_m : q ≡ m * 2 ^ d + c)
    (c_small : c < 2 ^ d) (m_low : 2 ^ 52 ≤ m) (m_high : m < 2 ^ 53) (s_high : s ≤ 126) (d_high : d ≤ 128)
    (is_h : 2 ^ d ≡ h * 2) where
  j : ℕ
  j = d + 1074 - s

  u : ℕ
  u = j * 2 ^ 52 + m

  x : ℕ
  x = c * t + r

  D : ℕ
  D = parts_of_one

  j_few : j < 2046
  unfolding j
  j_few = omega arith

  scale : 2 ^ j * 2 ^ s ≡ 2 ^ d * D
  unfolding j D
  scale = parts_scaled (d + 1074 - s) s d (omega arith)

  whole : a * 2 ^ s ≡ m * 2 ^ d * t + x
  unfolding x
  whole = is_q ∙ ap (λ z. z * t + r) is_m ∙ omega arith

  x_small : x < 2 ^ d * t
  unfolding x
  x_small = let f : (c + 1) * t ≤ 2 ^ d * t = mul-le-mul_right t (omega arith) in omega arith

  size_u : size_in_parts u ≡ m * 2 ^ j
  unfolding u
  size_u = let f = j_few in size_normal j m m_low m_high (omega arith)

  size_next : size_in_parts (u + 1) ≡ (m + 1) * 2 ^ j
  unfolding u
  size_next = size_step j m m_low m_high j_few

  scaled_a : a * D * 2 ^ s ≡ (m * 2 ^ d * t + x) * D
  scaled_a = omega (arith, ap (λ z. z * D) whole)

  scaled_u : size_in_parts u * t * 2 ^ s ≡ m * 2 ^ d * t * D
  scaled_u = ap (λ z. z * t * 2 ^ s) size_u ∙ omega (arith, ap (λ z. m * t * z) scale)

  scaled_next : size_in_parts (u + 1) * t * 2 ^ s ≡ (m + 1) * 2 ^ d * t * D
  scaled_next = ap (λ z. z * t * 2 ^ s) size_next ∙ omega (arith, ap (λ z. (m + 1) * t * z) scale)

  low : size_in_parts u * t ≤ a * D
  low = let e = scaled_a in let f = scaled_u in
      le_of_mul-le-mul_right {k = 2 ^ s} (omega arith) (pow_pos s)

  high : a * D ≤ size_in_parts (u + 1) * t
  high = let e = scaled_a in let f = scaled_next in
      let g : (m * 2 ^ d * t + x) * D ≤ ((m + 1) * 2 ^ d * t) * D = mul-le-mul_right D (let l = x_small in omega arith) in
      le_of_mul-le-mul_right {k = 2 ^ s} (omega arith) (pow_pos s)

  apart_u : apart a t u * 2 ^ s ≡ x * D
  unfolding D
  apart_u =
      let l = low in
      let e : (apart a t u + size_in_parts u * t) ≡ a * parts_of_one = omega arith in
      omega (arith, ap (λ z. z * 2 ^ s) e, scaled_a, scaled_u)

  apart_next : (apart a t (u + 1)) * 2 ^ s + x * D ≡ 2 ^ d * t * D
  unfolding D
  apart_next =
      let l = high in
      let e : (apart a t (u + 1) + a * parts_of_one) ≡ size_in_parts (u + 1) * t = omega arith in
      omega (arith, ap (λ z. z * 2 ^ s) e, scaled_a, scaled_next)

  nearer : 2 * x < 2 ^ d * t → apart a t u < apart a t (u + 1)
  unfolding D
  nearer l =
      let p : 2 * x * D < 2 ^ d * t * D = mul-lt-mul_of_pos_right l parts_some in
      lt_of_mul-lt-mul_right (2 ^ s) (omega (arith, apart_u, apart_next))

  farther : 2 ^ d * t < 2 * x → apart a t (u + 1) < apart a t u
  unfolding D
  farther l =
      let p : 2 ^ d * t * D < 2 * x * D = mul-lt-mul_of_pos_right l parts_some in
      lt_of_mul-lt-mul_right (2 ^ s) (omega (arith, apart_u, apart_next))

  level : 2 * x ≡ 2 ^ d * t → apart a t (u + 1) ≡ apart a t u
  unfolding D
  level l =
      let p : 2 * x * D ≡ 2 ^ d * t * D = ap (λ z. z * D) l in
      let g : apart a t (u + 1) ≤ apart a t u = le_of_mul-le-mul_right {k = 2 ^ s} (omega (arith, apart_u, apart_next)) (pow_pos s) in
      let k : apart a t u ≤ apart a t (u + 1) = le_of_mul-le-mul_right {k = 2 ^ s} (omega (arith, apart_u, apart_next)) (pow_pos s) in
      omega arith

  -- by the rest that is rounded away, against half of the last place
  pub below_half : 2 * (c * t + r) < 2 ^ d * t → IsNearestSize a t ((d + 1074 - s) * 2 ^ 52 + m)
  unfolding u j x D
  below_half l =
      let n = nearer l in
      let k = j_few in
      round_down a t u (omega arith) (omega arith) low high (omega arith) (λ e. absurd (omega arith))

  pub above_half : 2 ^ d * t < 2 * (c * t + r) → IsNearestSize a t ((d + 1074 - s) * 2 ^ 52 + m + 1)
  unfolding u j x D
  above_half l =
      let n = farther l in
      let k = j_few in
      round_up a t u (omega arith) (omega arith) low high (omega arith) (λ e. absurd (omega arith))

  pub at_half : 2 * (c * t + r) ≡ 2 ^ d * t → IsNearestSize a t ((d + 1074 - s) * 2 ^ 52 + m + m % 2)
  unfolding u j x D
  at_half l =
      let n = level l in
      let k = j_few in
      elim (cases_lt 0 (m % 2)) [
        | inl odd ↦ let e : m % 2 ≡ 1 = omega arith in
            rw e (round_up a t u (omega arith) (omega arith) low high (omega arith) (λ _. omega arith))
        | inr even ↦ let e : m % 2 ≡ 0 = omega arith in
            let g : u + 0 ≡ u = omega arith in
            rw (e, g) (round_down a t u (omega arith) (omega arith) low high (omega arith) (λ _. omega arith))
      ]

  -- by the bits that are cut off and the rest of the division
  pub cut_below_half : c < h → IsNearestSize a t ((d + 1074 - s) * 2 ^ 52 + m)
  cut_below_half l =
      let f : (c + 1) * t ≤ h * t = mul-le-mul_right t (omega arith) in
      below_half (rw is_h (omega arith))

  pub cut_above_half : (h < c) ⊎ ((c ≡ h) × (0 < r)) → IsNearestSize a t ((d + 1074 - s) * 2 ^ 52 + m + 1)
  cut_above_half l =
      let g : h * t < c * t + r = elim l [
        | inl b ↦ let f : (h + 1) * t ≤ c * t = mul-le-mul_right t (omega arith) in omega arith
        | inr b ↦ rw b.0 (omega (arith, b.1))
      ] in
      above_half (rw is_h (omega arith))

  pub cut_is_half : c ≡ h → r ≡ 0 → IsNearestSize a t ((d + 1074 - s) * 2 ^ 52 + m + m % 2)
  cut_is_half l z = at_half (rw is_h (rw (l, z) (omega arith)))
