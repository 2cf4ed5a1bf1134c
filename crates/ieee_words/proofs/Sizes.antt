-- the sizes of the words without a sign, which grow with the word
use Rattle.std.proofs.Common.{◌≡◌, ℕ, zero, suc, ◌+◌, ◌-◌, ◌*◌, ◌/◌, ◌%◌, ◌^◌, ◌<◌, ◌≤◌, arith, ap, ◌∙◌, inl, inr, eqb, cond}
use Rattle.std.proofs.Math.Pow.{pow-add, pow_pos}
use Rattle.std.proofs.lemmas.Nat.{div-mul-add, mod-mul-add, div-add-mod', mod_below}
use Rattle.std.proofs.lemmas.Bool.{cases_lt, cond-false, ne_eqb}
use Rattle.ieee_words.specs.Word.{size_in_parts}

size_from : (w e f : ℕ) → w / 2 ^ 52 % 2 ^ 11 ≡ e → w % 2 ^ 52 ≡ f →
    size_in_parts w ≡ cond (eqb e 0) f ((2 ^ 52 + f) * 2 ^ (e - 1))
unfolding size_in_parts
size_from w e f p q = cc

-- a word with no exponent bits
pub size_small : (u : ℕ) → u < 2 ^ 52 → size_in_parts u ≡ u
size_small u h =
    let d : u / 2 ^ 52 ≡ 0 = omega arith in
    let m : u % 2 ^ 52 ≡ u = omega (arith, div-add-mod' u (2 ^ 52)) in
    size_from u 0 u (omega arith) m

-- a word with exponent bits, by the 53 bits of its size
pub size_normal : (j m : ℕ) → 2 ^ 52 ≤ m → m < 2 ^ 53 → j < 2047 → size_in_parts (j * 2 ^ 52 + m) ≡ m * 2 ^ j
size_normal j m low high few =
    let f : ℕ = m - 2 ^ 52 in
    let fb : f < 2 ^ 52 = omega arith in
    let e : j * 2 ^ 52 + m ≡ (j + 1) * 2 ^ 52 + f = omega arith in
    let d : ((j + 1) * 2 ^ 52 + f) / 2 ^ 52 ≡ j + 1 = div-mul-add (j + 1) (2 ^ 52) f fb in
    let r : ((j + 1) * 2 ^ 52 + f) % 2 ^ 52 ≡ f = mod-mul-add (j + 1) (2 ^ 52) f fb in
    let k : (j * 2 ^ 52 + m) / 2 ^ 52 % 2 ^ 11 ≡ j + 1 = rw (e, d) (omega arith) in
    let s = size_from (j * 2 ^ 52 + m) (j + 1) f k (rw e r) in
    s ∙ (cond-false (eqb (j + 1) 0) _ _ (ne_eqb (j + 1) 0 (λ z. omega arith))) ∙ ap2 (omega arith) (omega arith)
  where
    ap2 : {a b c d : ℕ} → a ≡ b → c ≡ d → a * 2 ^ c ≡ b * 2 ^ d
    ap2 p q = cc

-- the 53 bits and the power of a word with exponent bits
pub parts_of : (u : ℕ) → 2 ^ 52 ≤ u → u < 2047 * 2 ^ 52 →
    (j : ℕ) × (m : ℕ) × (u ≡ j * 2 ^ 52 + m) × (2 ^ 52 ≤ m) × (m < 2 ^ 53) × (j < 2046)
parts_of u low high =
    let q : ℕ = u / 2 ^ 52 in
    let f : ℕ = u % 2 ^ 52 in
    let s : q * 2 ^ 52 + f ≡ u = div-add-mod' u (2 ^ 52) in
    let b : f < 2 ^ 52 = mod_below u (2 ^ 52) (omega arith) in
    (q - 1, 2 ^ 52 + f, omega arith, omega arith, omega arith, omega arith)

-- the next word's size is greater, by a power of two
pub size_step : (j m : ℕ) → 2 ^ 52 ≤ m → m < 2 ^ 53 → j < 2046 →
    size_in_parts (j * 2 ^ 52 + m + 1) ≡ (m + 1) * 2 ^ j
size_step j m low high few = elim (cases_lt (m + 1) (2 ^ 53)) [
  | inl a ↦ let e : j * 2 ^ 52 + m + 1 ≡ j * 2 ^ 52 + (m + 1) = omega arith in
      rw e (size_normal j (m + 1) (omega arith) a (omega arith))
  | inr b ↦
      let e : j * 2 ^ 52 + m + 1 ≡ (j + 1) * 2 ^ 52 + 2 ^ 52 = omega arith in
      let p : 2 ^ (j + 1) ≡ 2 ^ j * 2 = pow-add 2 j 1 in
      let g : m + 1 ≡ 2 ^ 53 = omega arith in
      let s = size_normal (j + 1) (2 ^ 52) (omega arith) (omega arith) (omega arith) in
      rw (e, s, p, g) (omega arith)
]

-- each word's size is below the next one's
pub size_grows : (u : ℕ) → u < 2047 * 2 ^ 52 → size_in_parts u < size_in_parts (u + 1)
size_grows u high = elim (cases_lt u (2 ^ 52)) [
  | inl a ↦ small a
  | inr b ↦ normal b
]
  where
    small : u < 2 ^ 52 → size_in_parts u < size_in_parts (u + 1)
    small a = elim (cases_lt (u + 1) (2 ^ 52)) [
      | inl b ↦ omega (arith, size_small u a, size_small (u + 1) b)
      | inr b ↦ let e : u + 1 ≡ 0 * 2 ^ 52 + 2 ^ 52 = omega arith in
          let s : size_in_parts (u + 1) ≡ 2 ^ 52 * 2 ^ 0 =
          rw e (size_normal 0 (2 ^ 52) (omega arith) (omega arith) (omega arith)) in
          omega (arith, size_small u a, s)
    ]

    normal : 2 ^ 52 ≤ u → size_in_parts u < size_in_parts (u + 1)
    normal b =
        let t = parts_of u b high in
        let j : ℕ = t.0 in
        let m : ℕ = t.1 in
        let e : u ≡ j * 2 ^ 52 + m = t.2 in
        let s : size_in_parts u ≡ m * 2 ^ j = ap size_in_parts e ∙ size_normal j m t.3 t.4 (omega arith) in
        let n : size_in_parts (u + 1) ≡ (m + 1) * 2 ^ j = ap (λ x. size_in_parts (x + 1)) e ∙ size_step j m t.3 t.4 t.5 in
        let p : 0 < 2 ^ j = pow_pos j in
        rw (s, n) (omega arith)

-- the sizes are in the words' order
pub size_mono : (u v : ℕ) → u ≤ v → v ≤ 2047 * 2 ^ 52 → size_in_parts u ≤ size_in_parts v
size_mono u zero h k = let e : u ≡ 0 = omega arith in omega (arith, ap size_in_parts e)
size_mono u (suc v) h k = elim (cases_lt v u) [
  | inl a ↦ let e : u ≡ suc v = omega arith in omega (arith, ap size_in_parts e)
  | inr b ↦ let e : suc v ≡ v + 1 = omega arith in
      let g : size_in_parts v < size_in_parts (v + 1) = size_grows v (omega arith) in
      let i : size_in_parts u ≤ size_in_parts v = size_mono u v b (omega arith) in
      rw e (omega arith)
]
