-- A word that has a short decimal is read as that decimal.
use Rattle.std.proofs.Common.{◌≡◌, ℕ, zero, suc, ◌+◌, ◌-◌, ◌*◌, ◌%◌, ◌^◌, ◌<◌, ◌≤◌, arith, sym, refl, subst, ap, ◌∙◌, inl, inr, ℤ, pos, neg_ℤ, negsuc, ◌*ℤ◌, Bool, true, false, Result, Ok, Err}
use Rattle.std.specs.Prelude.{unsigned_abs}
use Rattle.std.proofs.Math.Pow.{pow-add}
use Rattle.std.proofs.Math.Nat.{mul_assoc, mul-le-mul_right, mul-lt-mul_of_pos_right}
use Rattle.std.proofs.Math.IntN.{negsuc-*ℤ-pos}
use Rattle.std.proofs.lemmas.Bool.{cases_lt}
use Rattle.ieee_words.specs.declared.decimals.Dec.{Dec}
use Rattle.ieee_words.specs.declared.decimals.WordFault.{WordFault}
use Rattle.ieee_words.specs.declared.decimals.WordFault.TheVariants.{NotFinite, TooLarge}
use Rattle.ieee_words.specs.Word.{size_in_parts, parts_of_one}
use Rattle.ieee_words.specs.Near.{IsNearest, IsShort}
use Rattle.ieee_words.specs.Sizes.{IsNearestSize, apart}
use Rattle.ieee_words.specs.Dec.{IsDecimalOf, IsExact, IsShortOrRounded}
use Rattle.ieee_words.specs.DecimalOfWord.{decimal_of_word}
use Rattle.ieee_words.proofs.Candidates.{near_half}
use Rattle.ieee_words.proofs.OfWord.{is_small}
use Rattle.ieee_words.proofs.OneDecimal.{one_short}
use Rattle.ieee_words.proofs.Rounded.{parts_some}
use Rattle.ieee_words.proofs.Scaling.{near_scaled}
use Rattle.ieee_words.proofs.Signed.{neg_mul}
use Rattle.ieee_words.proofs.Sizes.{size_small, size_normal, size_step, size_grows, parts_of}
use Rattle.ieee_words.proofs.Unique.{few_parts, ten_some, size_of_positive, size_of_negative}
use Rattle.ieee_words.proofs.WordDecimals.{decimal_of_word_is}

-- the word of 10 ^ 9
abbrev pub large : ℕ
large = 0x41CD_CD65_0000_0000

-- if a word's size is below 10 ^ 15 by more than half, a decimal with that word is too: one of 16 digits is nearer to the next word
few_digits : (a k u : ℕ) → k ≤ 9 → u < large → IsNearestSize a (10 ^ k) u →
    2 * (size_in_parts u * 10 ^ k) + parts_of_one < 2 * 10 ^ 15 * parts_of_one → a < 10 ^ 15
few_digits a k u few small near bound = elim (cases_lt a (10 ^ 15)) [
  | inl l ↦ l
  | inr l ↦ absurd (elim (cases_lt u (2 ^ 52)) [ inl h ↦ low h (beyond l) | inr h ↦ high h (beyond l) ])
]
  where
    farther : (x y z p : ℕ) → 2 * y + p < 2 * x → y < z → (x - y) + (y - x) ≤ (x - z) + (z - x) → y + p < z
    farther x y z p h l c = omega arith

    beyond : 10 ^ 15 ≤ a → size_in_parts u * 10 ^ k + parts_of_one < size_in_parts (u + 1) * 10 ^ k
    beyond l =
        let m : 10 ^ 15 * parts_of_one ≤ a * parts_of_one = mul-le-mul_right parts_of_one l in
        let g : size_in_parts u * 10 ^ k < size_in_parts (u + 1) * 10 ^ k = mul-lt-mul_of_pos_right (size_grows u (omega arith)) (ten_some k) in
        farther (a * parts_of_one) (size_in_parts u * 10 ^ k) (size_in_parts (u + 1) * 10 ^ k) parts_of_one (omega arith) g (near.closest (u + 1) (omega arith))

    next_small : u < 2 ^ 52 → size_in_parts (u + 1) ≡ u + 1
    next_small h = elim (cases_lt (u + 1) (2 ^ 52)) [
      | inl l ↦ size_small (u + 1) l
      | inr l ↦ let e : u + 1 ≡ 0 * 2 ^ 52 + 2 ^ 52 = omega arith in
          ap size_in_parts e ∙ size_normal 0 (2 ^ 52) (omega arith) (omega arith) (omega arith) ∙ omega arith
    ]

    low : u < 2 ^ 52 → size_in_parts u * 10 ^ k + parts_of_one < size_in_parts (u + 1) * 10 ^ k → ⊥
    low h b =
        let e : size_in_parts u * 10 ^ k ≡ u * 10 ^ k = ap (λ x. x * 10 ^ k) (size_small u h) in
        let f : size_in_parts (u + 1) * 10 ^ k ≡ (u + 1) * 10 ^ k = ap (λ x. x * 10 ^ k) (next_small h) in
        let p = few_parts k few in omega arith

    high : 2 ^ 52 ≤ u → size_in_parts u * 10 ^ k + parts_of_one < size_in_parts (u + 1) * 10 ^ k → ⊥
    high h b =
        let (j, m, is, least, most, few) = parts_of u h (omega arith) in
        let e : size_in_parts u * 10 ^ k ≡ m * 2 ^ j * 10 ^ k = ap (λ x. size_in_parts x * 10 ^ k) is ∙ ap (λ x. x * 10 ^ k) (size_normal j m least most (omega arith)) in
        let f : size_in_parts (u + 1) * 10 ^ k ≡ (m + 1) * 2 ^ j * 10 ^ k = ap (λ x. size_in_parts (x + 1) * 10 ^ k) is ∙ ap (λ x. x * 10 ^ k) (size_step j m least most few) in
        let g : 2 ^ 52 * (2 ^ j * 10 ^ k) ≤ m * (2 ^ j * 10 ^ k) = mul-le-mul_right (2 ^ j * 10 ^ k) least in
        omega arith

-- a decimal of 15 digits keeps its word's size below 10 ^ 15 by more than half
bound : (b k u : ℕ) → b < 10 ^ 15 → 2 * apart b (10 ^ k) u < parts_of_one → 2 * (size_in_parts u * 10 ^ k) + parts_of_one < 2 * 10 ^ 15 * parts_of_one
bound b k u digits near = let m : suc b * parts_of_one ≤ 10 ^ 15 * parts_of_one = mul-le-mul_right parts_of_one digits in omega arith

-- with a sign
size_bound : (w k : ℕ) (m : ℤ) → w < 2 ^ 64 → w % 2 ^ 63 < large → IsShort w m k →
    2 * (size_in_parts (w % 2 ^ 63) * 10 ^ k) + parts_of_one < 2 * 10 ^ 15 * parts_of_one
size_bound w k (pos zero) fits small s =
    let e : w % 2 ^ 63 ≡ 0 = (let z : w ≡ 0 = s.near.zero refl in omega arith) in
    let z : size_in_parts (w % 2 ^ 63) * 10 ^ k ≡ 0 * 10 ^ k = ap (λ x. x * 10 ^ k) (ap size_in_parts e ∙ size_small 0 (omega arith)) in
    let p = parts_some in omega arith
size_bound w k (pos (suc b)) fits small s =
    let x = size_of_positive (suc b) k w s.places (omega arith) s.near in
    let l : w < 2 ^ 63 = x.0 in
    let e : w % 2 ^ 63 ≡ w = omega arith in
    let n = near_half (suc b) k w s.places (omega arith) (omega arith) x.1 s.digits in
    rw e (bound (suc b) k w s.digits n)
size_bound w k (negsuc b) fits small s =
    let x = size_of_negative (suc b) k w s.places (omega arith) s.near in
    let l : 2 ^ 63 ≤ w = x.0 in
    let e : w % 2 ^ 63 ≡ w - 2 ^ 63 = omega arith in
    let n = near_half (suc b) k (w - 2 ^ 63) s.places (omega arith) (omega arith) x.1 s.digits in
    rw e (bound (suc b) k (w - 2 ^ 63) s.digits n)

-- so where one decimal of the word has at most 15 digits, each in those places has
digits_of : (w k : ℕ) (x m : ℤ) → w < 2 ^ 64 → w % 2 ^ 63 < large → IsNearest x k w → IsShort w m k → unsigned_abs x < 10 ^ 15
digits_of w k (pos zero) m fits small near s = omega arith
digits_of w k (pos (suc a)) m fits small near s =
    let x = size_of_positive (suc a) k w s.places (omega arith) near in
    let l : w < 2 ^ 63 = x.0 in
    let e : w % 2 ^ 63 ≡ w = omega arith in
    few_digits (suc a) k w s.places (omega arith) x.1 (rw e at (size_bound w k m fits small s))
digits_of w k (negsuc a) m fits small near s =
    let x = size_of_negative (suc a) k w s.places (omega arith) near in
    let l : 2 ^ 63 ≤ w = x.0 in
    let e : w % 2 ^ 63 ≡ w - 2 ^ 63 = omega arith in
    few_digits (suc a) k (w - 2 ^ 63) s.places (omega arith) x.1 (rw e at (size_bound w k m fits small s))

-- the short decimals in fewer and in more places are one number
widened : (w j k : ℕ) (n m : ℤ) → w < 2 ^ 64 → w % 2 ^ 63 < large → j ≤ k → IsShort w n j → IsShort w m k → n *ℤ pos (10 ^ (k - j)) ≡ m
widened w j k n m fits small h s t =
    let e : j + (k - j) ≡ k = omega arith in
    let near : IsNearest (n *ℤ pos (10 ^ (k - j))) k w = subst (λ i. IsNearest (n *ℤ pos (10 ^ (k - j))) i w) e (near_scaled n j (k - j) w s.places s.near) in
    one_short w k (n *ℤ pos (10 ^ (k - j))) m fits small
    (record { places = t.places; digits = digits_of w k (n *ℤ pos (10 ^ (k - j))) m fits small near t; near = near }) t

-- scaling by a product
scaled_twice : (n : ℤ) (a b : ℕ) → n *ℤ pos (a * b) ≡ n *ℤ pos a *ℤ pos b
scaled_twice (pos n) a b = ap pos (sym (mul_assoc n a b))
scaled_twice (negsuc n) a b =
    negsuc-*ℤ-pos n (a * b) ∙ ap (λ x. neg_ℤ (pos x)) (sym (mul_assoc (suc n) a b))
    ∙ sym (ap (λ (z : ℤ). z *ℤ pos b) (negsuc-*ℤ-pos n a) ∙ neg_mul (suc n * a) b)

abbrev pub dec : ℤ → Bool → Dec
dec nano exact = record { nano = nano; exact = exact }

module _ (w k : ℕ) (m : ℤ) (fits : w < 2 ^ 64) (small : w % 2 ^ 63 < large) (s : IsShort w m k) where
  nano : ℤ
  nano = m *ℤ pos (10 ^ (9 - k))

  in_nanos : (n : ℤ) → IsExact w n → n ≡ nano
  unfolding nano
  in_nanos n x =
      let h : x.k ≤ k = elim (cases_lt k x.k) [ inl l ↦ absurd (x.least k l m s) | inr l ↦ l ] in
      let f = s.places in
      let e : k - x.k + (9 - k) ≡ 9 - x.k = omega arith in
      let p : 10 ^ (9 - x.k) ≡ 10 ^ (k - x.k) * 10 ^ (9 - k) = ap (λ i. 10 ^ i) (sym e) ∙ pow-add 10 (k - x.k) (9 - k) in
      x.scaled ∙ ap (λ i. x.n *ℤ pos i) p ∙ scaled_twice x.n (10 ^ (k - x.k)) (10 ^ (9 - k))
      ∙ ap (λ (z : ℤ). z *ℤ pos (10 ^ (9 - k))) (widened w x.k k x.n m fits small h x.short s)

  exactly : (n : ℤ) (x : Bool) → IsShortOrRounded w n x → dec n x ≡ dec nano true
  exactly n true r = ap (λ (z : ℤ). dec z true) (in_nanos n r)
  exactly n false r = absurd (r.none m k s)

  read : (r : Result Dec WordFault) → IsDecimalOf w r → r ≡ Ok (dec nano true)
  read (Ok d) r = ap Ok (exactly d.nano d.exact r.2)
  read (Err NotFinite) r = absurd (let f = s.near.finite.1 in omega arith)
  read (Err TooLarge) r = absurd ((is_small w fits small).1 r.1)

  pub short_is_read : decimal_of_word w ≡ Ok (record { nano = m *ℤ pos (10 ^ (9 - k)); exact = true })
  unfolding nano
  short_is_read = read (decimal_of_word w) (decimal_of_word_is w fits)
