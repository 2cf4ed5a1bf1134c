-- a decimal of few digits with a given nearest word is the whole number nearest to the word's value times the power of ten
use Rattle.std.proofs.Common.{◌≡◌, ℕ, zero, suc, ◌+◌, ◌-◌, ◌*◌, ◌^◌, ◌<◌, ◌≤◌, arith, ap, ◌∙◌, inl, inr}
use Rattle.std.proofs.Math.Pow.{pow-add, pow_pos}
use Rattle.std.proofs.Math.Nat.{mul-le-mul_right, mul-lt-mul_of_pos_right}
use Rattle.std.proofs.lemmas.Bool.{cases_lt, cases_order}
use Rattle.ieee_words.specs.Word.{size_in_parts, parts_of_one}
use Rattle.ieee_words.specs.Sizes.{IsNearestSize, apart}
use Rattle.ieee_words.proofs.Sizes.{size_small, size_normal, size_step, parts_of}
use Rattle.ieee_words.proofs.Unique.{few_parts, ten_some, sizes_grow}
use Rattle.ieee_words.proofs.Rounded.{parts_some}

-- the word before is not farther below than the next one is above
pub size_before : (j m : ℕ) → 2 ^ 52 ≤ m → m < 2 ^ 53 → j < 2046 →
    m * 2 ^ j ≤ size_in_parts (j * 2 ^ 52 + m - 1) + 2 ^ j
size_before zero m low high few = elim (cases_lt (2 ^ 52) m) [
  | inl a ↦ let e : 0 * 2 ^ 52 + m - 1 ≡ 0 * 2 ^ 52 + (m - 1) = omega arith in
      rw e (omega (arith, size_normal 0 (m - 1) (omega arith) (omega arith) (omega arith)))
  | inr b ↦ let e : 0 * 2 ^ 52 + m - 1 ≡ 2 ^ 52 - 1 = omega arith in
      rw e (omega (arith, size_small (2 ^ 52 - 1) (omega arith)))
]
size_before (suc j) m low high few = elim (cases_lt (2 ^ 52) m) [
  | inl a ↦ let e : suc j * 2 ^ 52 + m - 1 ≡ suc j * 2 ^ 52 + (m - 1) = omega arith in
      let p : (m - 1) * 2 ^ suc j + 2 ^ suc j ≡ m * 2 ^ suc j = omega (arith, ap (λ x. x * 2 ^ suc j) (back m (omega arith))) in
      rw e (omega (arith, p, size_normal (suc j) (m - 1) (omega arith) (omega arith) (omega arith)))
  | inr b ↦ let e : suc j * 2 ^ 52 + m - 1 ≡ j * 2 ^ 52 + (2 ^ 53 - 1) = omega arith in
      let f : m ≡ 2 ^ 52 = omega arith in
      let p : 2 ^ suc j ≡ 2 ^ j * 2 = ap (λ x. 2 ^ x) (one_more j) ∙ pow-add 2 j 1 in
      rw (e, f, p) (omega (arith, size_normal j (2 ^ 53 - 1) (omega arith) (omega arith) (omega arith)))
]
  where
    back : (m : ℕ) → 0 < m → (m - 1) + 1 ≡ m
    back m h = omega arith

    one_more : (j : ℕ) → suc j ≡ j + 1
    one_more j = omega arith

module _ (a k w : ℕ) (few : k ≤ 9) (some : 0 < a) (top : w + 1 < 2047 * 2 ^ 52) (near : IsNearestSize a (10 ^ k) w) where
  -- a word with no exponent bits is nearest to nothing but 0
  normal : 2 ^ 52 ≤ w
  normal = elim (cases_lt w (2 ^ 52)) [
    | inr h ↦ h
    | inl h ↦
        let t : ℕ = 10 ^ k in
        let f : t * 2 ^ 60 ≤ parts_of_one = few_parts k few in
        let p : 0 < t = ten_some k in
        let m : 1 * parts_of_one ≤ a * parts_of_one = mul-le-mul_right parts_of_one some in
        let s : size_in_parts w ≡ w = size_small w h in
        let n : size_in_parts (0 * 2 ^ 52 + 2 ^ 52) ≡ 2 ^ 52 * 2 ^ 0 = size_normal 0 (2 ^ 52) (omega arith) (omega arith) (omega arith) in
        let x : size_in_parts w * t ≡ w * t = ap (λ z. z * t) s in
        let y : size_in_parts (2 ^ 52) * t ≡ 2 ^ 52 * t = ap (λ z. z * t) (n ∙ omega arith) in
        let z : w * t < 2 ^ 52 * t = mul-lt-mul_of_pos_right h p in
        let c : apart a t w ≤ apart a t (2 ^ 52) = near.closest (2 ^ 52) (omega arith) in
        absurd (omega arith)
  ]

  -- the word's value and the decimal are apart by at most one part in 2 ^ 53 of the value
  close : 2 ^ 53 * apart a (10 ^ k) w ≤ size_in_parts w * 10 ^ k
  close =
      let t : ℕ = 10 ^ k in
      let b = parts_of w normal (omega arith) in
      let j : ℕ = b.0 in
      let m : ℕ = b.1 in
      let is : w ≡ j * 2 ^ 52 + m = b.2 in
      let s : size_in_parts w ≡ m * 2 ^ j = ap size_in_parts is ∙ size_normal j m b.3 b.4 (omega arith) in
      let n : size_in_parts (w + 1) ≡ (m + 1) * 2 ^ j = ap (λ x. size_in_parts (x + 1)) is ∙ size_step j m b.3 b.4 b.5 in
      let e : size_in_parts (w - 1) ≡ size_in_parts (j * 2 ^ 52 + m - 1) = ap (λ x. size_in_parts (x - 1)) is in
      let l : m * 2 ^ j ≤ size_in_parts (w - 1) + 2 ^ j = omega (arith, size_before j m b.3 b.4 b.5) in
      let g : ℕ = 2 ^ j * t in
      let ws : size_in_parts w * t ≡ m * g = ap (λ z. z * t) s ∙ omega arith in
      let ns : size_in_parts (w + 1) * t ≡ (m + 1) * g = ap (λ z. z * t) n ∙ omega arith in
      let ls : m * 2 ^ j * t ≤ (size_in_parts (w - 1) + 2 ^ j) * t = mul-le-mul_right t l in
      let up : apart a t w ≤ apart a t (w + 1) = near.closest (w + 1) top in
      let down : apart a t w ≤ apart a t (w - 1) = near.closest (w - 1) (omega arith) in
      let gp : 0 < g = positive (2 ^ j) t (pow_pos j) (ten_some k) in
      let mp : 2 ^ 52 * g ≤ m * g = mul-le-mul_right g b.3 in
      let ws' : size_in_parts (w - 1) * t < size_in_parts w * t = mul-lt-mul_of_pos_right (sizes_grow (w - 1) w (omega arith) (omega arith)) (ten_some k) in
      let h : 2 * apart a t w ≤ g =
      half_gap (a * parts_of_one) (m * g) (size_in_parts (w - 1) * t) g (apart a t w) gp (omega arith) (omega arith) (omega arith) (omega arith) (omega arith) in
      omega arith
    where
      positive : (x y : ℕ) → 0 < x → 0 < y → 0 < x * y
      positive x y p q = let m : 1 * y ≤ x * y = mul-le-mul_right y p in omega arith

      half_gap : (b s l g x : ℕ) → 0 < g → x ≡ (b - s) + (s - b) → x ≤ (b - (s + g)) + ((s + g) - b) → x ≤ (b - l) + (l - b) →
          l < s → s ≤ l + g → 2 * x ≤ g
      half_gap b s l g x p is up down lo gap = omega arith

  -- so a decimal of fewer than 16 digits is nearer to the value than half a unit of its last place
  pub near_half : a < 10 ^ 15 → 2 * apart a (10 ^ k) w < parts_of_one
  near_half digits =
      let c = close in
      let p = parts_some in
      let d : a * parts_of_one ≤ (10 ^ 15 - 1) * parts_of_one = mul-le-mul_right parts_of_one (omega arith) in
      omega arith

  -- and it is the whole number nearest to the value in its places, and there is no tie
  pub only_candidate : a < 10 ^ 15 → (n : ℕ) → 2 * apart n (10 ^ k) w ≤ parts_of_one → n ≡ a
  only_candidate digits n half =
      let h = near_half digits in
      elim (cases_order n a) [
        | inl e ↦ e
        | inr (inl l) ↦ let m : (n + 1) * parts_of_one ≤ a * parts_of_one = mul-le-mul_right parts_of_one (omega arith) in absurd (omega arith)
        | inr (inr l) ↦ let m : (a + 1) * parts_of_one ≤ n * parts_of_one = mul-le-mul_right parts_of_one (omega arith) in absurd (omega arith)
      ]
