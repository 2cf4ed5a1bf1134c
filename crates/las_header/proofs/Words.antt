-- The words of scales and offsets are read back.
use Rattle.std.proofs.Common.{◌≡◌, ℕ, zero, suc, ◌+◌, ◌-◌, ◌*◌, ◌%◌, ◌^◌, ◌<◌, ◌≤◌, arith, sym, refl, subst, ap, ◌∙◌, inl, inr, ℤ, pos, negsuc, ◌*ℤ◌, ◌≤ℤ◌, Ok, true, ltb, ◌&&◌}
use Rattle.std.specs.Prelude.{unsigned_abs}
use Rattle.std.proofs.Math.Pow.{pow-add, pow_pos}
use Rattle.std.proofs.Math.Nat.{mul_assoc, mul-le-mul_right, pow-le-pow_right}
use Rattle.std.proofs.lemmas.Bool.{cases_lt, cond-true, le-leb, and_from}
use Rattle.std.proofs.lemmas.Int.{ints, unsigned_abs-mul}
use Rattle.std.proofs.lemmas.Nat.{mul-le}
use Rattle.decimal_coords.specs.declared.grid.Scale.{Scale}
use Rattle.ieee_words.specs.Word.{size_in_parts, parts_of_one}
use Rattle.ieee_words.specs.Near.{IsNearest, IsShort}
use Rattle.ieee_words.specs.NearWord.{near_word}
use Rattle.ieee_words.specs.Sizes.{IsNearestSize, apart}
use Rattle.ieee_words.specs.DecimalOfWord.{decimal_of_word}
use Rattle.ieee_words.proofs.Bits.{pow_sum}
use Rattle.ieee_words.proofs.NearWords.{near_word_is, is_near_word}
use Rattle.ieee_words.proofs.Scaling.{near_scaled}
use Rattle.ieee_words.proofs.Signed.{apart_zero}
use Rattle.ieee_words.proofs.Sizes.{size_small, size_normal}
use Rattle.ieee_words.proofs.Unique.{few_parts, ten_some, size_of_positive, size_of_negative}
use Rattle.ieee_words.proofs.WordDecimals.{is_scale_of_word}
use Rattle.ieee_words.proofs.Wholes.{from_large}
use Rattle.las_header.specs.ScaleWords.{scale_read, decimal_scale}
use Rattle.las_header.specs.WordOffsets.{IsWordOffset}
use Rattle.las_header.proofs.ScaleLemmas.{scale_of_its_nano}
use Rattle.las_header.proofs.ShortWords.{large, dec, short_is_read}

-- the word of a number above 0 isn't 0
word_some : (a k u : ℕ) → k ≤ 9 → 0 < a → IsNearestSize a (10 ^ k) u → 0 < u
word_some a k zero few some near =
    let z = apart_zero a (10 ^ k) in
    let c : apart a (10 ^ k) 0 ≤ apart a (10 ^ k) 1 = near.closest 1 (omega arith) in
    let f = few_parts k few in
    let t = ten_some k in
    let m : 1 * parts_of_one ≤ a * parts_of_one = mul-le-mul_right parts_of_one some in
    let e : size_in_parts 1 * 10 ^ k ≡ 1 * 10 ^ k = ap (λ x. x * 10 ^ k) (size_small 1 (omega arith)) in
    absurd (omega arith)
word_some a k (suc u) few some near = omega arith

-- a scale's word is above 0 and has no sign
scale_word : (nano : ℤ) → pos 1 ≤ℤ nano → nano ≤ℤ pos (10 ^ 9) → (0 < near_word nano 9) × (near_word nano 9 < 2 ^ 63)
scale_word (pos n) low high =
    let some : 0 < n = omega (arith, ints, low) in
    let s = size_of_positive n 9 (near_word (pos n) 9) (omega arith) some (near_word_is (pos n) 9 (omega arith) (omega (arith, ints, high))) in
    (word_some n 9 (near_word (pos n) 9) (omega arith) some s.1, s.0)
scale_word (negsuc n) low high = absurd (omega (arith, ints, low))

pub scale_is_read : (s : Scale) → scale_read (near_word s.nano 9) ≡ Ok s
scale_is_read s =
    let w : ℕ = near_word s.nano 9 in
    let b = scale_word s.nano s.low s.high in
    let near : IsNearest s.nano 9 w = near_word_is s.nano 9 (omega arith) (omega (arith, ints, s.low, s.high)) in
    let found = is_scale_of_word w s.nano near.finite.0 (record { low = s.low; high = s.high; near = near }) in
    cond-true (ltb 0 w && ltb w (2 ^ 63)) _ _ (and_from (ltb 0 w) (ltb w (2 ^ 63)) (le-leb 1 w b.0) (le-leb (suc w) (2 ^ 63) b.1))
    ∙ ap decimal_scale (sym found) ∙ rw (scale_of_its_nano s s.nano refl) refl

parts_split : 2 ^ 23 * 2 ^ 1051 ≡ parts_of_one
unfolding parts_of_one
parts_split = pow_sum 23 1051 1074 (omega arith)

-- what is clearly below 10 ^ 9 has a word below that of 10 ^ 9: the word before it is nearer
word_small : (a u : ℕ) → a + 1000 ≤ 10 ^ 18 → IsNearestSize a (10 ^ 9) u → u < large
word_small a u room near = elim (cases_lt u large) [
  | inl l ↦ l
  | inr l ↦
      let c : apart a (10 ^ 9) u ≤ apart a (10 ^ 9) (large - 1) = near.closest (large - 1) (omega arith) in
      let s : size_in_parts (large - 1) ≡ (10 ^ 9 * 2 ^ 23 - 1) * 2 ^ 1051 =
      size_normal 1051 (10 ^ 9 * 2 ^ 23 - 1) (omega arith) (omega arith) (omega arith) in
      let m : (a + 1000) * parts_of_one ≤ 10 ^ 18 * parts_of_one = mul-le-mul_right parts_of_one room in
      absurd (nearer (a * parts_of_one) (size_in_parts u) (size_in_parts (large - 1)) parts_of_one (2 ^ 1051) parts_split (pow_pos 1051) s
      (from_large u l near.finite) (omega arith) c)
]
  where
    nearer : (x s v p q : ℕ) → 2 ^ 23 * q ≡ p → 0 < q → v ≡ (10 ^ 9 * 2 ^ 23 - 1) * q → 10 ^ 9 * p ≤ s → x + 1000 * p ≤ 10 ^ 18 * p →
        (x - s * 10 ^ 9) + (s * 10 ^ 9 - x) ≤ (x - v * 10 ^ 9) + (v * 10 ^ 9 - x) → ⊥
    nearer x s v p q e some is big room c = omega arith

-- a number of 15 digits below 10 ^ 18 nanounits is clearly below
room : (a b k : ℕ) → k ≤ 9 → b < 10 ^ 15 → a ≡ b * 10 ^ (9 - k) → a < 10 ^ 18 → a + 1000 ≤ 10 ^ 18
room a b k few short is small = elim (cases_lt 6 k) [
  | inl l ↦
      let p : 10 ^ (9 - k) ≤ 10 ^ 2 = (let f : 9 - k ≤ 2 = omega arith in pow-le-pow_right (omega arith) f) in
      let m : b * 10 ^ (9 - k) ≤ 10 ^ 15 * 10 ^ 2 = mul-le b (10 ^ (9 - k)) (10 ^ 15) (10 ^ 2) (omega arith) p in omega arith
  | inr l ↦
      let e : 9 - k ≡ (6 - k) + 3 = omega arith in
      let p : 10 ^ (9 - k) ≡ 10 ^ (6 - k) * 10 ^ 3 = ap (λ i. 10 ^ i) e ∙ pow-add 10 (6 - k) 3 in
      let q : a ≡ b * 10 ^ (6 - k) * 10 ^ 3 = is ∙ ap (λ i. b * i) p ∙ sym (mul_assoc b (10 ^ (6 - k)) (10 ^ 3)) in
      omega arith
]

-- with a sign
offset_small : (nano : ℤ) (w : ℕ) → unsigned_abs nano + 1000 ≤ 10 ^ 18 → IsNearest nano 9 w → w % 2 ^ 63 < large
offset_small (pos zero) w h near = let e : w ≡ 0 = near.zero refl in omega arith
offset_small (pos (suc a)) w h near =
    let x = size_of_positive (suc a) 9 w (omega arith) (omega arith) near in
    let l : w < 2 ^ 63 = x.0 in
    let u = word_small (suc a) w h x.1 in omega arith
offset_small (negsuc a) w h near =
    let x = size_of_negative (suc a) 9 w (omega arith) (omega arith) near in
    let l : 2 ^ 63 ≤ w = x.0 in
    let f = near.finite.0 in
    let u = word_small (suc a) (w - 2 ^ 63) h x.1 in omega arith

-- the word of an offset is that of its short decimal
offset_short : (nano : ℤ) (o : IsWordOffset nano) → IsShort (near_word nano 9) o.number o.places
offset_short nano o =
    let u : ℕ = near_word o.number o.places in
    let short : IsNearest o.number o.places u = near_word_is o.number o.places o.few (let d = o.short in omega arith) in
    let e : o.places + (9 - o.places) ≡ 9 = (let f = o.few in omega arith) in
    let wide : IsNearest nano 9 u =
    subst (λ (z : ℤ). IsNearest z 9 u) (sym o.is)
    (subst (λ i. IsNearest (o.number *ℤ pos (10 ^ (9 - o.places))) i u) e (near_scaled o.number o.places (9 - o.places) u o.few short)) in
    let same : u ≡ near_word nano 9 = is_near_word nano 9 u (omega arith) (let l = o.small in omega arith) wide in
    record { places = o.few; digits = o.short; near = subst (IsNearest o.number o.places) same short }

pub offset_is_read : (nano : ℤ) → IsWordOffset nano → decimal_of_word (near_word nano 9) ≡ Ok (record { nano = nano; exact = true })
offset_is_read nano o =
    let w : ℕ = near_word nano 9 in
    let near : IsNearest nano 9 w = near_word_is nano 9 (omega arith) (let l = o.small in omega arith) in
    let size : unsigned_abs nano ≡ unsigned_abs o.number * 10 ^ (9 - o.places) = ap unsigned_abs o.is ∙ unsigned_abs-mul o.number (pos (10 ^ (9 - o.places))) in
    let small = offset_small nano w (room (unsigned_abs nano) (unsigned_abs o.number) o.places o.few o.short size o.small) near in
    short_is_read w o.places o.number near.finite.0 small (offset_short nano o)
    ∙ ap (λ (z : ℤ). Ok (dec z true)) (sym o.is)
