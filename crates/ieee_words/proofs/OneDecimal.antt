-- a word has one decimal
use Rattle.std.proofs.Common.{◌≡◌, ℕ, zero, suc, ◌-◌, ◌*◌, ◌%◌, ◌^◌, ◌<◌, ◌≤◌, arith, sym, refl, subst, ap, ◌∙◌, inl, inr, ℤ, pos, negsuc, ◌*ℤ◌, Bool, true, false}
use Rattle.std.specs.Prelude.{Result, Ok, Err}
use Rattle.std.proofs.lemmas.Bool.{cases_order}
use Rattle.ieee_words.specs.declared.decimals.Dec.{Dec}
use Rattle.ieee_words.specs.declared.decimals.WordFault.{WordFault}
use Rattle.ieee_words.specs.declared.decimals.WordFault.TheVariants.{NotFinite, TooLarge}
use Rattle.ieee_words.specs.Word.{parts_of_one}
use Rattle.ieee_words.specs.Near.{IsShort}
use Rattle.ieee_words.specs.Sizes.{apart, IsNearestCount}
use Rattle.ieee_words.specs.Dec.{IsShortOrRounded, IsDecimalOf, IsExact}
use Rattle.ieee_words.proofs.Signed.{apart_zero}
use Rattle.ieee_words.proofs.Rounded.{parts_some}
use Rattle.ieee_words.proofs.Unique.{size_of_positive, size_of_negative}
use Rattle.ieee_words.proofs.Candidates.{near_half}
use Rattle.ieee_words.proofs.Short.{candidate}
use Rattle.ieee_words.proofs.Nanos.{one_whole}
use Rattle.ieee_words.proofs.OfWord.{small_word}

counted : (u t n : ℕ) → 2 * apart n t u < parts_of_one → IsNearestCount u t n
counted u t n h = record { half = omega arith; tie_even = λ e. absurd (omega arith) }

-- a short decimal's size is the whole number nearest to the word's size in its places
count_of : (w k : ℕ) (m : ℤ) → k ≤ 9 → w < 2 ^ 64 → w % 2 ^ 63 < 0x41CD_CD65_0000_0000 → IsShort w m k →
    (n : ℕ) × IsNearestCount (w % 2 ^ 63) (10 ^ k) n
count_of w k (pos zero) few fits small s =
    let e : w ≡ 0 = s.near.zero refl in
    let z : w % 2 ^ 63 ≡ 0 = omega arith in
    (0, rw z (counted 0 (10 ^ k) 0 (let a = apart_zero 0 (10 ^ k) in let p = parts_some in omega arith)))
count_of w k (pos (suc a)) few fits small s =
    let x = size_of_positive (suc a) k w few (omega arith) s.near in
    let h : w < 2 ^ 63 = x.0 in
    let e : w % 2 ^ 63 ≡ w = omega arith in
    (suc a, rw e (counted w (10 ^ k) (suc a) (near_half (suc a) k w few (omega arith) (omega arith) x.1 s.digits)))
count_of w k (negsuc a) few fits small s =
    let x = size_of_negative (suc a) k w few (omega arith) s.near in
    let h : 2 ^ 63 ≤ w = x.0 in
    let e : w % 2 ^ 63 ≡ w - 2 ^ 63 = omega arith in
    (suc a, rw e (counted (w - 2 ^ 63) (10 ^ k) (suc a) (near_half (suc a) k (w - 2 ^ 63) few (omega arith) (omega arith) x.1 s.digits)))

-- so it is one
pub one_short : (w k : ℕ) (m n : ℤ) → w < 2 ^ 64 → w % 2 ^ 63 < 0x41CD_CD65_0000_0000 → IsShort w m k → IsShort w n k → m ≡ n
one_short w k m n fits small s t =
    let c = count_of w k m s.places fits small s in
    elim (candidate w k c.0 m s.places fits small c.1 s) [
      | inl x ↦ elim (candidate w k c.0 n s.places fits small c.1 t) [
        | inl y ↦ x.1 ∙ sym y.1
        | inr y ↦ absurd (y.0 x.0)
      ]
      | inr x ↦ elim (candidate w k c.0 n s.places fits small c.1 t) [
        | inl y ↦ absurd (x.0 y.0)
        | inr y ↦ x.1 ∙ sym y.1
      ]
    ]

one_exact : (w : ℕ) (m n : ℤ) → w < 2 ^ 64 → w % 2 ^ 63 < 0x41CD_CD65_0000_0000 → IsExact w m → IsExact w n → m ≡ n
one_exact w m n fits small p q =
    let k : p.k ≡ q.k = elim (cases_order p.k q.k) [
      | inl e ↦ e
      | inr (inl l) ↦ absurd (q.least p.k l p.n p.short)
      | inr (inr l) ↦ absurd (p.least q.k l q.n q.short)
    ] in
    let e : p.n ≡ q.n = one_short w q.k p.n q.n fits small (subst (IsShort w p.n) k p.short) q.short in
    p.scaled ∙ ap (λ (z : ℤ). z *ℤ pos (10 ^ (9 - p.k))) e ∙ ap (λ j. q.n *ℤ pos (10 ^ (9 - j))) k ∙ sym q.scaled

both : (w : ℕ) (m n : ℤ) (x y : Bool) → w < 2 ^ 64 → w % 2 ^ 63 < 0x41CD_CD65_0000_0000 →
    IsShortOrRounded w m x → IsShortOrRounded w n y → (m ≡ n) × (x ≡ y)
both w m n true true fits small p q = (one_exact w m n fits small p q, refl)
both w m n true false fits small p q = absurd (q.none p.n p.k p.short)
both w m n false true fits small p q = absurd (p.none q.n q.k q.short)
both w m n false false fits small p q = (one_whole w m n fits p.nearest q.nearest, refl)

abbrev dec : ℤ → Bool → Dec
dec n x = record { nano = n; exact = x }

same_decimal : (d e : Dec) → d.nano ≡ e.nano → d.exact ≡ e.exact → d ≡ e
same_decimal d e p q = ap (λ (n : ℤ). dec n d.exact) p ∙ ap (λ (x : Bool). dec e.nano x) q

pub one_decimal : (w : ℕ) (r q : Result Dec WordFault) → IsDecimalOf w r → IsDecimalOf w q → r ≡ q
one_decimal w (Ok d) (Ok e) p q =
    let b = both w d.nano e.nano d.exact e.exact p.0.0 (small_word w p.0 p.1) p.2 q.2 in
    ap Ok (same_decimal d e b.0 b.1)
one_decimal w (Ok d) (Err NotFinite) p q = absurd (let f = p.0.1 in omega arith)
one_decimal w (Ok d) (Err TooLarge) p q = absurd (p.1 q.1)
one_decimal w (Err NotFinite) (Ok e) p q = absurd (let f = q.0.1 in omega arith)
one_decimal w (Err NotFinite) (Err NotFinite) p q = refl
one_decimal w (Err NotFinite) (Err TooLarge) p q = absurd (let f = q.0.1 in omega arith)
one_decimal w (Err TooLarge) (Ok e) p q = absurd (q.1 p.1)
one_decimal w (Err TooLarge) (Err NotFinite) p q = absurd (let f = p.0.1 in omega arith)
one_decimal w (Err TooLarge) (Err TooLarge) p q = refl
