-- the only short decimal with a given word in a given number of places
use Rattle.std.proofs.Common.{◌≡◌, ◌≢◌, ℕ, zero, suc, ◌-◌, ◌*◌, ◌%◌, ◌^◌, ◌<◌, ◌≤◌, arith, sym, refl, subst, ap, ◌∙◌, inl, inr, ◌⊎◌, ℤ, pos, neg_ℤ, negsuc}
use Rattle.std.proofs.Math.Nat.{mul-le-mul_right}
use Rattle.std.proofs.lemmas.Bool.{cases_lt}
use Rattle.ieee_words.specs.Word.{size_in_parts, parts_of_one}
use Rattle.ieee_words.specs.Near.{IsShort}
use Rattle.ieee_words.specs.Sizes.{IsNearestCount}
use Rattle.ieee_words.proofs.Sizes.{size_small}
use Rattle.ieee_words.proofs.Unique.{size_of_positive, size_of_negative}
use Rattle.ieee_words.proofs.Candidates.{only_candidate}
use Rattle.ieee_words.proofs.Rounded.{parts_some}

nearest_to_zero : (t n : ℕ) → IsNearestCount 0 t n → n ≡ 0
nearest_to_zero t n r =
    let s : size_in_parts 0 ≡ 0 = size_small 0 (omega arith) in
    let z : size_in_parts 0 * t ≡ 0 = ap (λ x. x * t) s ∙ omega arith in
    let h = r.half in
    let p = parts_some in
    elim (cases_lt 0 n) [
      | inl l ↦ let m : 1 * parts_of_one ≤ n * parts_of_one = mul-le-mul_right parts_of_one l in absurd (omega arith)
      | inr l ↦ omega arith
    ]

positive : (w k n : ℕ) (m : ℤ) → k ≤ 9 → w < 0x41CD_CD65_0000_0000 → IsNearestCount w (10 ^ k) n → IsShort w m k → m ≡ pos n
positive w k n (pos zero) few small r s =
    let e : w ≡ 0 = s.near.zero refl in
    ap pos (sym (nearest_to_zero (10 ^ k) n (subst (λ x. IsNearestCount x (10 ^ k) n) e r)))
positive w k n (pos (suc a)) few small r s =
    let x = size_of_positive (suc a) k w few (omega arith) s.near in
    ap pos (sym (only_candidate (suc a) k w few (omega arith) (omega arith) x.1 s.digits n r.half))
positive w k n (negsuc a) few small r s =
    let x = size_of_negative (suc a) k w few (omega arith) s.near in absurd (omega (arith, x.0))

negative : (w k n : ℕ) (m : ℤ) → k ≤ 9 → 2 ^ 63 ≤ w → w - 2 ^ 63 < 0x41CD_CD65_0000_0000 →
    IsNearestCount (w - 2 ^ 63) (10 ^ k) n → IsShort w m k → m ≡ neg_ℤ (pos n)
negative w k n (pos zero) few sign small r s =
    let e : w ≡ 0 = s.near.zero refl in absurd (omega arith)
negative w k n (pos (suc a)) few sign small r s =
    let x = size_of_positive (suc a) k w few (omega arith) s.near in absurd (omega (arith, x.0))
negative w k n (negsuc a) few sign small r s =
    let x = size_of_negative (suc a) k w few (omega arith) s.near in
    ap (λ z. neg_ℤ (pos z)) (sym (only_candidate (suc a) k (w - 2 ^ 63) few (omega arith) (omega arith) x.1 s.digits n r.half))

-- the candidate has the word's sign
pub candidate : (w k n : ℕ) (m : ℤ) → k ≤ 9 → w < 2 ^ 64 → w % 2 ^ 63 < 0x41CD_CD65_0000_0000 →
    IsNearestCount (w % 2 ^ 63) (10 ^ k) n → IsShort w m k →
    ((w % 2 ^ 63 ≡ w) × (m ≡ pos n)) ⊎ ((w % 2 ^ 63 ≢ w) × (m ≡ neg_ℤ (pos n)))
candidate w k n m few fits small r s = elim (cases_lt w (2 ^ 63)) [
  | inl h ↦ let e : w % 2 ^ 63 ≡ w = omega arith in
      inl (e, positive w k n m few (omega arith) (subst (λ x. IsNearestCount x (10 ^ k) n) e r) s)
  | inr h ↦ let e : w % 2 ^ 63 ≡ w - 2 ^ 63 = omega arith in
      inr ((λ z. omega arith), negative w k n m few h (omega arith) (subst (λ x. IsNearestCount x (10 ^ k) n) e r) s)
]
