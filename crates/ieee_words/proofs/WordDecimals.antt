-- the computed decimal and scale are those of the word
use Rattle.std.proofs.Common.{◌≡◌, ℕ, zero, suc, ◌+◌, ◌-◌, ◌*◌, ◌/◌, ◌%◌, ◌^◌, ◌<◌, ◌≤◌, arith, sym, refl, subst, ap, ◌∙◌, inl, inr, ◌⊎◌, ℤ, pos, negsuc, neg_ℤ, ◌*ℤ◌, ◌≤ℤ◌, Bool, true, cond, eqb, ltb, leb}
use Rattle.std.specs.Prelude.{unsigned_abs, Option, Some, None, Result, Ok, Err, ◌&&◌}
use Rattle.std.proofs.Math.Pow.{pow-add}
use Rattle.std.proofs.lemmas.Bool.{cases_lt, cases_eq, cases_Bool, cond-true, cond-false, eq-eqb, ne_eqb, eqb-true, le-leb, lt-leb, leb-true, and_from, and_parts}
use Rattle.std.proofs.lemmas.Int.{ints}
use Rattle.ieee_words.specs.declared.decimals.Dec.{Dec}
use Rattle.ieee_words.specs.declared.decimals.WordFault.{WordFault}
use Rattle.ieee_words.specs.declared.decimals.WordFault.TheVariants.{TooLarge}
use Rattle.ieee_words.specs.Word.{size_in_parts, parts_of_one, exponent_bits, fraction_bits}
use Rattle.ieee_words.specs.Near.{IsNearest, IsShort}
use Rattle.ieee_words.specs.NearWord.{near_word}
use Rattle.ieee_words.specs.Dec.{IsDecimalOf, IsLarge, IsShortOrRounded, IsRoundedOff}
use Rattle.ieee_words.specs.Scale.{IsScaleOf, HasScale}
use Rattle.ieee_words.specs.DecimalOfWord.{mantissa, count_size, count_of, if_short, short_at, nano_or, shortest, exact_or, decimal_of_word, in_scale, scale_of_word}
use Rattle.ieee_words.proofs.Counts.{count_is, mantissa_zero, mantissa_some, exponent_low, fraction_low}
use Rattle.ieee_words.proofs.NearWords.{near_word_is, is_near_word}
use Rattle.ieee_words.proofs.OfWord.{small_word, size_low, rounded_off}
use Rattle.ieee_words.proofs.OneDecimal.{one_decimal}
use Rattle.ieee_words.proofs.ScaleWords.{scale_small, short, has_scale}
use Rattle.ieee_words.proofs.Short.{candidate}
use Rattle.ieee_words.proofs.Wholes.{size_without_exponent, size_with_exponent}

-- the count with the sign
count_positive : (w k : ℕ) → w < 2 ^ 63 → count_of w k ≡ pos (count_size w k)
count_positive w k h = cond-false (leb (2 ^ 63) w) _ _ (lt-leb (2 ^ 63) w h)

count_negative : (w k : ℕ) → 2 ^ 63 ≤ w → count_of w k ≡ neg_ℤ (pos (count_size w k))
count_negative w k h = cond-true (leb (2 ^ 63) w) _ _ (le-leb (2 ^ 63) w h)

test : ℤ → ℕ → ℕ → Bool
test n k w = ltb (unsigned_abs n) (10 ^ 15) && eqb (near_word n k) w

-- what is found is short
found : (n m : ℤ) (k w : ℕ) → k ≤ 9 → if_short n k w ≡ Some m → IsShort w m k
found n m k w few e = elim (cases_Bool (ltb (unsigned_abs n) (10 ^ 15) && eqb (near_word n k) w)) [
  | inl t ↦
      let f : Some n ≡ Some m = sym (cond-true _ _ _ t) ∙ e in
      let s : n ≡ m = cc in
      let p = and_parts (ltb (unsigned_abs n) (10 ^ 15)) (eqb (near_word n k) w) t in
      let d : unsigned_abs n < 10 ^ 15 = leb-true (suc (unsigned_abs n)) (10 ^ 15) p.0 in
      let q : near_word n k ≡ w = eqb-true (near_word n k) w p.1 in
      subst (λ (z : ℤ). IsShort w z k) s (record { places = few; digits = d; near = subst (IsNearest n k) q (near_word_is n k few (omega arith)) })
  | inr t ↦ let f : None ≡ Some m = sym (cond-false _ _ _ t) ∙ e in absurd (none_some m f)
]
  where
    none_some : (m : ℤ) → None ≡ Some m → ⊥
    none_some m f = cc

pub short_found : (w k : ℕ) (m : ℤ) → k ≤ 9 → short_at w k ≡ Some m → IsShort w m k
short_found w k m few e = found (count_of w k) m k w few e

-- and what is short is found
passes : (n : ℤ) (k w : ℕ) → IsShort w n k → if_short n k w ≡ Some n
passes n k w s =
    let d = s.digits in
    let a : ltb (unsigned_abs n) (10 ^ 15) ≡ true = le-leb (suc (unsigned_abs n)) (10 ^ 15) (omega arith) in
    let b : eqb (near_word n k) w ≡ true = eq-eqb (near_word n k) w (sym (is_near_word n k w s.places (omega arith) s.near)) in
    cond-true _ _ _ (and_from (ltb (unsigned_abs n) (10 ^ 15)) (eqb (near_word n k) w) a b)

pub short_is : (w k : ℕ) (n : ℤ) → w < 2 ^ 64 → w % 2 ^ 63 < 0x41CD_CD65_0000_0000 → IsShort w n k → short_at w k ≡ Some n
short_is w k n fits small s =
    let c : count_of w k ≡ n = elim (candidate w k (count_size w k) n s.places fits small (count_is w k s.places fits small) s) [
      | inl x ↦ let l : w < 2 ^ 63 = (let e = x.0 in omega arith) in count_positive w k l ∙ sym x.1
      | inr x ↦ count_negative w k (elim (cases_lt w (2 ^ 63)) [ inl l ↦ absurd (x.0 (omega arith)) | inr l ↦ l ]) ∙ sym x.1
    ] in
    ap (λ (z : ℤ). if_short z k w) c ∙ passes n k w s

-- the first place with a short decimal, if there is one
record IsFirst (more k w j : ℕ) (n : ℤ) : Type 0 where
  low : k ≤ j
  high : j < k + more
  short : short_at w j ≡ Some n
  least : (i : ℕ) → k ≤ i → i < j → short_at w i ≡ None
  value : shortest more k w ≡ Some (n *ℤ pos (10 ^ (9 - j)))

record IsNowhere (more k w : ℕ) : Type 0 where
  none : (i : ℕ) → k ≤ i → i < k + more → short_at w i ≡ None
  value : shortest more k w ≡ None

first : (more k w : ℕ) → ((j : ℕ) × (n : ℤ) × IsFirst more k w j n) ⊎ IsNowhere more k w
first zero k w = inr (record { none = λ i l h. absurd (omega arith); value = refl })
first (suc more) k w = go (short_at w k) refl (first more (k + 1) w)
  where
    step : (o : Option ℤ) → short_at w k ≡ o → shortest (suc more) k w ≡ nano_or k o (shortest more (k + 1) w)
    step o e = ap (λ (x : Option ℤ). nano_or k x (shortest more (k + 1) w)) e

    at : (i : ℕ) → k ≤ i → i < k + 1 → short_at w k ≡ None → short_at w i ≡ None
    at i l h e = let s : i ≡ k = omega arith in ap (short_at w) s ∙ e

    go : (o : Option ℤ) → short_at w k ≡ o → ((j : ℕ) × (n : ℤ) × IsFirst more (k + 1) w j n) ⊎ IsNowhere more (k + 1) w →
        ((j : ℕ) × (n : ℤ) × IsFirst (suc more) k w j n) ⊎ IsNowhere (suc more) k w
    go (Some n) e r = inl (k, n, record { low = omega arith; high = omega arith; short = e; least = λ i l h. absurd (omega arith); value = step (Some n) e })
    go None e (inl (j, n, f)) = inl (
      j,
      n,
      record {
        low = let l = f.low in omega arith;
        high = let h = f.high in omega arith;
        short = f.short;
        least = λ i l h. elim (cases_lt i (k + 1)) [ inl a ↦ at i l a e | inr a ↦ f.least i a h ];
        value = step None e ∙ f.value;
      },
    )
    go None e (inr f) = inr (record {
      none = λ i l h. elim (cases_lt i (k + 1)) [ inl a ↦ at i l a e | inr a ↦ f.none i a (omega arith) ];
      value = step None e ∙ f.value;
    })

not_short : (w i : ℕ) → w < 2 ^ 64 → w % 2 ^ 63 < 0x41CD_CD65_0000_0000 → short_at w i ≡ None → (m : ℤ) → ¬ IsShort w m i
not_short w i fits small e m s = none_some m (sym e ∙ short_is w i m fits small s)
  where
    none_some : (m : ℤ) → None ≡ Some m → ⊥
    none_some m f = cc

-- the decimal of a word below 10 ^ 9 in size
held : (w : ℕ) → w < 2 ^ 64 → w % 2 ^ 63 < 0x41CD_CD65_0000_0000 →
    IsShortOrRounded w (exact_or (shortest 10 0 w) (count_of w 9)).nano (exact_or (shortest 10 0 w) (count_of w 9)).exact
held w fits small = elim (first 10 0 w) [
  | inl (j, n, f) ↦ rw f.value (record {
    n = n;
    k = j;
    short = short_found w j n (let h = f.high in omega arith) f.short;
    least = λ i h. not_short w i fits small (f.least i (omega arith) h);
    scaled = refl;
  })
  | inr f ↦ rw f.value (elim (cases_lt w (2 ^ 63)) [
    | inl l ↦ rw (count_positive w 9 l) ((rest f).0 (omega arith))
    | inr l ↦ rw (count_negative w 9 l) ((rest f).1 (λ e. omega arith))
  ])
]
  where
    rest : IsNowhere 10 0 w → (w % 2 ^ 63 ≡ w → IsRoundedOff w (pos (count_size w 9))) × ((w % 2 ^ 63 ≡ w → ⊥) → IsRoundedOff w (neg_ℤ (pos (count_size w 9))))
    rest f = rounded_off w (count_size w 9) fits (λ j h. not_short w j fits small (f.none j (omega arith) (omega arith))) (count_is w 9 (omega arith) fits small)

-- twice the size, by the mantissa
size_twice : (w : ℕ) → w < 2 ^ 64 → exponent_bits w < 2047 → mantissa w * 2 ^ exponent_bits w ≡ 2 * size_in_parts w
size_twice w fits finite = elim (cases_eq (exponent_bits w) 0) [ inl e ↦ none e | inr n ↦ some n ]
  where
    none : exponent_bits w ≡ 0 → mantissa w * 2 ^ exponent_bits w ≡ 2 * size_in_parts w
    none e =
        let z : w % 2 ^ 63 / 2 ^ 52 ≡ 0 = sym (exponent_low w fits) ∙ e in
        let s : size_in_parts w ≡ fraction_bits w * 1 = size_low w fits ∙ size_without_exponent (w % 2 ^ 63) z ∙ ap (λ x. x * 1) (sym (fraction_low w fits)) in
        rw (mantissa_zero w e, e, s) (double (fraction_bits w))
      where
        double : (f : ℕ) → 2 * f * 2 ^ 0 ≡ 2 * (f * 1)
        double f = omega arith

    some : (exponent_bits w ≡ 0 → ⊥) → mantissa w * 2 ^ exponent_bits w ≡ 2 * size_in_parts w
    some n =
        let e = exponent_low w fits in
        let s : size_in_parts w ≡ (w % 2 ^ 63 % 2 ^ 52 + 2 ^ 52) * 2 ^ (w % 2 ^ 63 / 2 ^ 52 - 1) =
        size_low w fits ∙ size_with_exponent (w % 2 ^ 63) (omega arith) (λ z. n (e ∙ z)) in
        rw (mantissa_some w n, s, fraction_low w fits, e) (double (w % 2 ^ 63 % 2 ^ 52) (2 ^ 52) (w % 2 ^ 63 / 2 ^ 52) (λ z. n (e ∙ z)))
      where
        back : (x : ℕ) → (x ≡ 0 → ⊥) → x ≡ x - 1 + 1
        back x h = omega arith

        double : (f b x : ℕ) → (x ≡ 0 → ⊥) → (b + f) * 2 ^ x ≡ 2 * ((f + b) * 2 ^ (x - 1))
        double f b x h = let p : 2 ^ x ≡ 2 ^ (x - 1) * 2 = ap (λ k. 2 ^ k) (back x h) ∙ pow-add 2 (x - 1) 1 in
            ap (λ z. (b + f) * z) p ∙ omega arith

parts_twice : 2 ^ 1075 ≡ 2 * parts_of_one
unfolding parts_of_one
parts_twice = refl

large_from : (c p d x s : ℕ) → p ≡ 2 * d → x ≡ 2 * s → c * p ≤ x → c * d ≤ s
large_from c p d x s e f h = let g : c * p ≡ c * (2 * d) = ap (λ z. c * z) e in omega arith

large_to : (c p d x s : ℕ) → p ≡ 2 * d → x ≡ 2 * s → x < c * p → s < c * d
large_to c p d x s e f h = let g : c * p ≡ c * (2 * d) = ap (λ z. c * z) e in omega arith

pub decimal_of_word_is : (w : ℕ) → w < 2 ^ 64 → IsDecimalOf w (decimal_of_word w)
unfolding decimal_of_word
decimal_of_word_is w fits = elim (cases_eq (exponent_bits w) 2047) [
  | inl e ↦ rw (cond-true (eqb (exponent_bits w) 2047) _ _ (eq-eqb (exponent_bits w) 2047 e)) e
  | inr n ↦ rw (cond-false (eqb (exponent_bits w) 2047) _ _ (ne_eqb (exponent_bits w) 2047 n)) (finite (below n))
]
  where
    below : (exponent_bits w ≡ 2047 → ⊥) → exponent_bits w < 2047
    below n = omega arith

    finite : exponent_bits w < 2047 → IsDecimalOf w (cond (leb (10 ^ 9 * 2 ^ 1075) (mantissa w * 2 ^ exponent_bits w)) (Err TooLarge) (Ok (exact_or (shortest 10 0 w) (count_of w 9))))
    finite f = elim (cases_lt (mantissa w * 2 ^ exponent_bits w) (10 ^ 9 * 2 ^ 1075)) [
      | inl l ↦
          let s = large_to (10 ^ 9) (2 ^ 1075) parts_of_one (mantissa w * 2 ^ exponent_bits w) (size_in_parts w) parts_twice (size_twice w fits f) l in
          let n : ¬ IsLarge w = λ g. (omega arith) in
          rw (cond-false (leb (10 ^ 9 * 2 ^ 1075) (mantissa w * 2 ^ exponent_bits w)) _ _ (lt-leb (10 ^ 9 * 2 ^ 1075) (mantissa w * 2 ^ exponent_bits w) l))
          ((fits, f), n, held w fits (small_word w (fits, f) n))
      | inr l ↦
          rw (cond-true (leb (10 ^ 9 * 2 ^ 1075) (mantissa w * 2 ^ exponent_bits w)) _ _ (le-leb (10 ^ 9 * 2 ^ 1075) (mantissa w * 2 ^ exponent_bits w) l))
          ((fits, f), large_from (10 ^ 9) (2 ^ 1075) parts_of_one (mantissa w * 2 ^ exponent_bits w) (size_in_parts w) parts_twice (size_twice w fits f) l)
    ]

-- so what is the decimal of the word is the computed one
pub is_decimal_of_word : (w : ℕ) (r : Result Dec WordFault) → w < 2 ^ 64 → IsDecimalOf w r → r ≡ decimal_of_word w
is_decimal_of_word w r fits d = one_decimal w r (decimal_of_word w) d (decimal_of_word_is w fits)

-- the scale
pub is_scale_of_word : (w : ℕ) (n : ℤ) → w < 2 ^ 64 → IsScaleOf w n → Some n ≡ scale_of_word w
unfolding scale_of_word
is_scale_of_word w n fits s =
    let l = scale_small w (has_scale w n s) in
    sym (ap in_scale (short_is w 9 n fits (omega arith) (short w n s)) ∙ inside n s.low s.high)
  where
    inside : (n : ℤ) → pos 1 ≤ℤ n → n ≤ℤ pos (10 ^ 9) → in_scale (Some n) ≡ Some n
    inside (pos m) h k = cond-true (ltb 0 m && leb m (10 ^ 9)) _ _
        (and_from (ltb 0 m) (leb m (10 ^ 9)) (le-leb 1 m (omega (arith, ints, h))) (le-leb m (10 ^ 9) (omega (arith, ints, k))))
    inside (negsuc m) h k = absurd (omega (arith, ints, h))

pub no_scale_of_word : (w : ℕ) → ¬ HasScale w → None ≡ scale_of_word w
unfolding scale_of_word
no_scale_of_word w none = go (short_at w 9) refl
  where
    inside : (m : ℕ) → (ltb 0 m && leb m (10 ^ 9)) ≡ true → short_at w 9 ≡ Some (pos m) → HasScale w
    inside m t e =
        let p = and_parts (ltb 0 m) (leb m (10 ^ 9)) t in
        let low : 1 ≤ m = leb-true 1 m p.0 in
        (m, 9, omega arith, low, leb-true m (10 ^ 9) p.1, (short_found w 9 (pos m) (omega arith) e).near)

    go : (o : Option ℤ) → short_at w 9 ≡ o → None ≡ in_scale (short_at w 9)
    go None e = rw e refl
    go (Some (negsuc m)) e = rw e refl
    go (Some (pos m)) e = rw e (elim (cases_Bool (ltb 0 m && leb m (10 ^ 9))) [
      | inl t ↦ absurd (none (inside m t e))
      | inr t ↦ sym (cond-false (ltb 0 m && leb m (10 ^ 9)) _ _ t)
    ])

pub scale_of_word_is : (w : ℕ) (n : ℤ) → scale_of_word w ≡ Some n → IsScaleOf w n
unfolding scale_of_word
scale_of_word_is w n e = go (short_at w 9) refl e
  where
    none_some : None ≡ Some n → ⊥
    none_some f = cc

    inside : (m : ℕ) → (ltb 0 m && leb m (10 ^ 9)) ≡ true → short_at w 9 ≡ Some (pos m) → IsScaleOf w (pos m)
    inside m t s =
        let p = and_parts (ltb 0 m) (leb m (10 ^ 9)) t in
        let low : 1 ≤ m = leb-true 1 m p.0 in
        let high : m ≤ 10 ^ 9 = leb-true m (10 ^ 9) p.1 in
        record { low = omega (arith, ints); high = omega (arith, ints); near = (short_found w 9 (pos m) (omega arith) s).near }

    go : (o : Option ℤ) → short_at w 9 ≡ o → in_scale o ≡ Some n → IsScaleOf w n
    go None s f = absurd (none_some f)
    go (Some (negsuc m)) s f = absurd (none_some f)
    go (Some (pos m)) s f = elim (cases_Bool (ltb 0 m && leb m (10 ^ 9))) [
      | inl t ↦
          let g : Some (pos m) ≡ Some n = sym (cond-true (ltb 0 m && leb m (10 ^ 9)) _ _ t) ∙ f in
          let q : pos m ≡ n = cc in subst (λ (z : ℤ). IsScaleOf w z) q (inside m t s)
      | inr t ↦ absurd (none_some (sym (cond-false (ltb 0 m && leb m (10 ^ 9)) _ _ t) ∙ f))
    ]
