-- the answers of `decimal`, over plain numbers
use Rattle.std.proofs.Common.{◌≡◌, ℕ, ◌+◌, ◌-◌, ◌*◌, ◌%◌, ◌^◌, ◌<◌, ◌≤◌, arith, sym, subst, ap, ◌∙◌, inl, inr, ℤ, pos, neg_ℤ, ◌*ℤ◌, w64, to_z, of_z, FitsSigned}
use Rattle.std.specs.Prelude.{unsigned_abs}
use Rattle.std.proofs.Math.Pow.{pow-add}
use Rattle.std.proofs.lemmas.Bool.{cases_lt}
use Rattle.std.proofs.lemmas.Int.{fits_signed_mul, to_z-of_z, to_z_pos}
use Rattle.ieee_words.specs.Word.{size_in_parts, IsFinite}
use Rattle.ieee_words.specs.Near.{IsShort}
use Rattle.ieee_words.specs.Sizes.{IsNearestCount}
use Rattle.ieee_words.specs.Dec.{IsLarge, IsExact, IsRoundedOff}
use Rattle.ieee_words.proofs.Signed.{size_unsigned}
use Rattle.ieee_words.proofs.Wholes.{below_large, from_large}
use Rattle.ieee_words.proofs.Nanos.{nearest_positive, nearest_negative}

pub size_low : (w : ℕ) → w < 2 ^ 64 → size_in_parts w ≡ size_in_parts (w % 2 ^ 63)
size_low w h = elim (cases_lt w (2 ^ 63)) [
  | inl l ↦ let e : w % 2 ^ 63 ≡ w = omega arith in ap size_in_parts (sym e)
  | inr l ↦ let e : w % 2 ^ 63 ≡ w - 2 ^ 63 = omega arith in size_unsigned w l h ∙ ap size_in_parts (sym e)
]

pub is_large : (w : ℕ) → w < 2 ^ 64 → 0x41CD_CD65_0000_0000 ≤ w % 2 ^ 63 → w % 2 ^ 63 < 0x7FF0_0000_0000_0000 → IsFinite w × IsLarge w
is_large w h l k = ((h, omega arith), (let f = from_large (w % 2 ^ 63) l k in let e = size_low w h in omega arith))

pub is_small : (w : ℕ) → w < 2 ^ 64 → w % 2 ^ 63 < 0x41CD_CD65_0000_0000 → IsFinite w × ¬ IsLarge w
is_small w h l = ((h, omega arith), (λ g. let f = below_large (w % 2 ^ 63) l in let e = size_low w h in omega arith))

pub fits_scaled : (n : ℤ) (k p : ℕ) → k < 10 → unsigned_abs n ≤ 10 ^ 9 * 10 ^ k → p ≡ 10 ^ (9 - k) → FitsSigned w64 (n *ℤ pos p)
fits_scaled n k p few h e =
    let t : 10 ^ k * 10 ^ (9 - k) ≡ 10 ^ 9 = sym (pow-add 10 k (9 - k)) ∙ ap (λ x. 10 ^ x) (let s : k + (9 - k) ≡ 9 = omega arith in s) in
    fits_signed_mul w64 n (pos p) (10 ^ 9 * 10 ^ k) (10 ^ (9 - k)) h (omega arith) (product (10 ^ 9) (10 ^ k) (10 ^ (9 - k)) t)
  where
    product : (a b c : ℕ) → b * c ≡ 10 ^ 9 → 10 ^ 9 * b * c < 2 ^ 63
    product a b c q = let r = ap (λ x. 10 ^ 9 * x) q in omega arith

-- the product as the code computes it
pub scaled_is : (n : ℤ) (k p : ℕ) → FitsSigned w64 n → k < 10 → unsigned_abs n ≤ 10 ^ 9 * 10 ^ k → p ≡ 10 ^ (9 - k) → p < 2 ^ 63 →
    (FitsSigned w64 (to_z w64 (of_z w64 n) *ℤ to_z w64 p)) × (to_z w64 (of_z w64 (to_z w64 (of_z w64 n) *ℤ to_z w64 p)) ≡ n *ℤ pos p)
scaled_is n k p f few h e l =
    let a : to_z w64 (of_z w64 n) ≡ n = to_z-of_z w64 n f in
    let b : to_z w64 p ≡ pos p = to_z_pos w64 p l in
    let g : FitsSigned w64 (n *ℤ pos p) = fits_scaled n k p few h e in
    ((rw (a, b) g), (rw (a, b) (to_z-of_z w64 (n *ℤ pos p) g)))

pub exact : (w k p : ℕ) (n : ℤ) → IsShort w n k → ((j : ℕ) → j < k → (m : ℤ) → ¬ IsShort w m j) → p ≡ 10 ^ (9 - k) → IsExact w (n *ℤ pos p)
exact w k p n s least e = record { n = n; k = k; short = s; least = least; scaled = ap (λ x. n *ℤ pos x) e }

pub rounded_off : (w n : ℕ) → w < 2 ^ 64 → ((j : ℕ) → j < 10 → (m : ℤ) → ¬ IsShort w m j) → IsNearestCount (w % 2 ^ 63) (10 ^ 9) n →
    (w % 2 ^ 63 ≡ w → IsRoundedOff w (pos n)) × ((w % 2 ^ 63 ≡ w → ⊥) → IsRoundedOff w (neg_ℤ (pos n)))
rounded_off w n h none r = (
  (λ e. record { none = no; nearest = nearest_positive w n (omega arith) (subst (λ x. IsNearestCount x (10 ^ 9) n) e r) }),
  (λ d. let l : 2 ^ 63 ≤ w = elim (cases_lt w (2 ^ 63)) [ inl a ↦ absurd (d (omega arith)) | inr b ↦ b ] in
      let e : w % 2 ^ 63 ≡ w - 2 ^ 63 = omega arith in
      record { none = no; nearest = nearest_negative w n l h (subst (λ x. IsNearestCount x (10 ^ 9) n) e r) }),
)
  where
    no : (m : ℤ) (k : ℕ) → ¬ IsShort w m k
    no m k s = none k (let p = s.places in omega arith) m s

-- a word of a size below 10 ^ 9 is below the word of 10 ^ 9
pub small_word : (w : ℕ) → IsFinite w → ¬ IsLarge w → w % 2 ^ 63 < 0x41CD_CD65_0000_0000
small_word w f n = elim (cases_lt (w % 2 ^ 63) 0x41CD_CD65_0000_0000) [
  | inl h ↦ h
  | inr h ↦ absurd (n (let l = from_large (w % 2 ^ 63) h (let a = f.0 in let b = f.1 in omega arith) in let e = size_low w f.0 in omega arith))
]
