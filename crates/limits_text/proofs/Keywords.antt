-- keywords, a byte at a time
use Rattle.std.proofs.Common.{◌≡◌, ℕ, zero, suc, ◌+◌, ◌<◌, ◌≤◌, ◌-◌, arith, refl, ap, ◌∙◌, inl, inr, List, [], ◌∷◌, length, take, drop, get_or, Bool, true, false}
use Rattle.std.specs.Prelude.{◌==◌, slice_range, Err}
use Rattle.std.proofs.lemmas.Bool.{cases_Bool, and_from, and_parts, cases_lt, true≢false}
use Rattle.std.proofs.lemmas.List.{take-append-drop, take-take, length-drop, length-take-le}
use Rattle.decimal_coords.specs.declared.parse.DecFault.{DecFault}
use Rattle.decimal_coords.specs.declared.parse.DecFault.TheVariants.{Empty, BadByte, Places, TooLarge}
use Rattle.decimal_coords.specs.DecimalOfText.{decimal_of_text}
use Rattle.decimal_coords.proofs.TextDecimals.{decimal_of_text_is}
use Rattle.decimal_coords.specs.Grammar.{IsBadPlace}
use Rattle.decimal_coords.specs.Scanning.{accepts, run}
use Rattle.decimal_coords.specs.declared.scan.Scan.TheVariants.{Start}
use Rattle.decimal_coords.proofs.Scanned.{decimal_if}
use Rattle.limits_text.specs.Follows.{begins, small}
use Rattle.limits_text.specs.Wrong.{is_unheld}

begins_next : (n : ℕ) (bs ks : List ℕ) (t : Bool) → n < length bs → n < length ks → begins (take n bs) ks ≡ true → (small (get_or bs n 0) == get_or ks n 0) ≡ t → begins (take (suc n) bs) ks ≡ t
begins_next n [] ks t h l b e = absurd (omega arith)
begins_next n (b ∷ bs) [] t h l g e = absurd (omega arith)
begins_next zero (b ∷ bs) (k ∷ ks) true h l g e = and_from (small b == k) true e refl
begins_next zero (b ∷ bs) (k ∷ ks) false h l g e = rw e refl
begins_next (suc n) (b ∷ bs) (k ∷ ks) t h l g e =
    let p = and_parts (small b == k) (begins (take n bs) ks) g in
    rw p.0 (begins_next n bs ks t (omega arith) (omega arith) p.1 e)

begins_past : (n : ℕ) (bs ks : List ℕ) → n < length bs → length ks ≤ n → begins (take (suc n) bs) ks ≡ false
begins_past n [] ks h l = absurd (omega arith)
begins_past n (b ∷ bs) [] h l = refl
begins_past zero (b ∷ bs) (k ∷ ks) h l = absurd (omega arith)
begins_past (suc n) (b ∷ bs) (k ∷ ks) h l = elim (cases_Bool (small b == k)) [
  | inl e ↦ rw e (begins_past n bs ks (omega arith) (omega arith))
  | inr e ↦ rw e refl
]

pub next_byte : (n : ℕ) (bs ks : List ℕ) (t : Bool) → n < length bs → n < length ks → begins (take n bs) ks ≡ true → (small (get_or bs n 0) == get_or ks n 0) ≡ t → begins (take (n + 1) bs) ks ≡ t
next_byte n bs ks t h l b e = let z : n + 1 ≡ suc n = omega arith in rw z (begins_next n bs ks t h l b e)

pub past_byte : (n : ℕ) (bs ks : List ℕ) → n < length bs → length ks ≤ n → begins (take (n + 1) bs) ks ≡ false
past_byte n bs ks h l = let z : n + 1 ≡ suc n = omega arith in rw z (begins_past n bs ks h l)

pub take_slice : (n : ℕ) (xs : List ℕ) (a b : ℕ) → a + n ≤ b → take n (slice_range xs a b) ≡ slice_range xs a (a + n)
take_slice n xs a b h = take-take n (b - a) (drop a xs) (omega arith) ∙ ap (λ m. take m (drop a xs)) (omega arith)

pub bad_short : (text : List ℕ) (at : ℕ) → IsBadPlace text at → accepts (run Start text) ≡ false
bad_short text at b = elim (cases_Bool (accepts (run Start text))) [
  | inr e ↦ e
  | inl e ↦ elim (cases_lt at (length text)) [
    | inl l ↦ absurd (b.stops l (drop (at + 1) text, rw (take-append-drop (at + 1) text) (decimal_if text e)))
    | inr l ↦ let w = b.within in absurd (b.early (omega arith) (decimal_if text e))
  ]
]

pub length_slice : (xs : List ℕ) (a b : ℕ) → b ≤ length xs → length (slice_range xs a b) ≡ b - a
length_slice xs a b h = omega (arith, length-drop a xs, length-take-le (b - a) (drop a xs) (omega (arith, length-drop a xs)))

-- a text that isn't read, and isn't unheld, is no decimal
pub unread : (text : List ℕ) (e : DecFault) → decimal_of_text text ≡ Err e → is_unheld (Err e) ≡ false → accepts (run Start text) ≡ false
unread text Empty h u =
    let t : text ≡ [] = rw h at (decimal_of_text_is text) in ap (λ x. accepts (run Start x)) t
unread text (BadByte at) h u =
    let p = rw h at (decimal_of_text_is text) in bad_short text at p.1
unread text Places h u = absurd (true≢false u)
unread text TooLarge h u = absurd (true≢false u)
