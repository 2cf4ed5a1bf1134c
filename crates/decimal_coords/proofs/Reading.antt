-- the parts of a decimal text, found byte by byte
use Rattle.std.proofs.Common.{◌≡◌, ◌≢◌, ℕ, ◌+◌, ◌-◌, ◌*◌, ◌^◌, ◌<◌, ◌≤◌, arith, sym, refl, ap, ◌∙◌, inl, inr, ◌⊎◌, List, [], ◌∷◌, ◌++◌, length, get_or, min, Bool, true, false, cond}
use Rattle.std.specs.Prelude.{fold}
use Rattle.std.proofs.Math.Nat.{mul-le-mul_right, one-le-pow}
use Rattle.std.proofs.lemmas.List.Sums.{fold-append}
use Rattle.std.proofs.lemmas.Bool.{ne_eqb}
use Rattle.decimal_coords.specs.Grammar.{AreDigits, IsSign, IsDecimalText, number_of, nano_size}
use Rattle.decimal_coords.specs.Scanning.{is_digit, digits_in, places_in}
use Rattle.decimal_coords.proofs.Scanned.{digit_true}

abbrev any : ℕ → ℕ → ℕ
any n b = cond (is_digit b) (n * 10 + (b - 48)) n

abbrev digit : ℕ → ℕ → ℕ
digit n b = n * 10 + (b - 48)

fold_digits : (ds : List ℕ) (n : ℕ) → AreDigits ds → fold any n ds ≡ fold digit n ds
fold_digits [] n d = refl
fold_digits (b ∷ ds) n d = rw (digit_true b d.0) (fold_digits ds (n * 10 + (b - 48)) d.1)

fold_sign : (negative : Bool) (sign : List ℕ) → IsSign negative sign → fold any 0 sign ≡ 0
fold_sign true sign e = rw e refl
fold_sign false sign (inl e) = rw e refl
fold_sign false sign (inr e) = rw e refl

fold_tail : (tail part : List ℕ) (n : ℕ) → ((tail ≡ []) × (part ≡ [])) ⊎ (tail ≡ 46 ∷ part) → AreDigits part → fold any n tail ≡ fold digit n part
fold_tail tail part n (inl e) d = rw (e.0, e.1) refl
fold_tail tail part n (inr e) d = rw e (fold_digits part n d)

pub digits_shown : (text whole part : List ℕ) (negative : Bool) → IsDecimalText text negative whole part → digits_in text ≡ number_of (whole ++ part)
digits_shown text whole part negative d =
    ap (fold any 0) d.shown ∙ fold-append any 0 d.sign (whole ++ d.tail) ∙ ap (λ n. fold any n (whole ++ d.tail)) (fold_sign negative d.sign d.sign_is)
    ∙ fold-append any 0 whole d.tail ∙ fold_tail d.tail part (fold any 0 whole) d.tail_is d.part_digits
    ∙ ap (λ n. fold digit n part) (fold_digits whole 0 d.whole_digits) ∙ sym (fold-append digit 0 whole part)

places_after : (b : ℕ) (bs : List ℕ) → b ≢ 46 → places_in (b ∷ bs) ≡ places_in bs
places_after b bs h = rw (ne_eqb b 46 h) refl

places_digits : (ds bs : List ℕ) → AreDigits ds → places_in (ds ++ bs) ≡ places_in bs
places_digits [] bs d = refl
places_digits (b ∷ ds) bs d = let l = d.0.0 in places_after b (ds ++ bs) (λ e. omega arith) ∙ places_digits ds bs d.1

places_sign : (negative : Bool) (sign bs : List ℕ) → IsSign negative sign → places_in (sign ++ bs) ≡ places_in bs
places_sign true sign bs e = rw e refl
places_sign false sign bs (inl e) = rw e refl
places_sign false sign bs (inr e) = rw e refl

places_tail : (tail part : List ℕ) → ((tail ≡ []) × (part ≡ [])) ⊎ (tail ≡ 46 ∷ part) → places_in tail ≡ length part
places_tail tail part (inl e) = rw (e.0, e.1) refl
places_tail tail part (inr e) = rw e refl

pub places_shown : (text whole part : List ℕ) (negative : Bool) → IsDecimalText text negative whole part → places_in text ≡ length part
places_shown text whole part negative d =
    ap places_in d.shown ∙ places_sign negative d.sign (whole ++ d.tail) d.sign_is ∙ places_digits whole d.tail d.whole_digits ∙ places_tail d.tail part d.tail_is

first_unsigned : (whole tail part : List ℕ) → ((tail ≡ []) × (part ≡ [])) ⊎ (tail ≡ 46 ∷ part) → AreDigits whole → 0 < length whole + length part → get_or (whole ++ tail) 0 0 ≢ 45
first_unsigned (b ∷ whole) tail part t d some e = let l = d.0.0 in omega arith
first_unsigned [] tail part (inl t) d some e = let z = ap length t.1 in omega arith
first_unsigned [] tail part (inr t) d some e = let z : get_or (46 ∷ part) 0 0 ≡ 45 = rw t at e in omega arith

pub sign_shown : (text whole part : List ℕ) (negative : Bool) → IsDecimalText text negative whole part →
    ((get_or text 0 0 ≡ 45) × (negative ≡ true)) ⊎ ((get_or text 0 0 ≢ 45) × (negative ≡ false))
sign_shown text whole part negative d = go negative d.sign_is
  where
    go : (n : Bool) → IsSign n d.sign → ((get_or text 0 0 ≡ 45) × (n ≡ true)) ⊎ ((get_or text 0 0 ≢ 45) × (n ≡ false))
    go true e = inl (rw (d.shown, e) refl, refl)
    go false (inl e) = inr (rw (d.shown, e) (first_unsigned whole d.tail part d.tail_is d.whole_digits d.some), refl)
    go false (inr e) = inr (rw (d.shown, e) (λ z. omega arith), refl)

-- the product with a ceiling above the limit
pub size_held : (x m p s : ℕ) → 0 < p → m ≡ min x (2 ^ 64 - 1) → s ≡ min (m * p) (2 ^ 64 - 1) → s ≤ 4 * 10 ^ 18 → s ≡ x * p
size_held x m p s some e f h =
    let t : m * 1 ≤ m * p = times m 1 p some in
    let k : m ≡ x = omega arith in
    let g : s ≡ m * p = omega arith in
    g ∙ ap (λ z. z * p) k
  where
    times : (m a b : ℕ) → a ≤ b → m * a ≤ m * b
    times m a b h = let l : a * m ≤ b * m = mul-le-mul_right m h in omega arith

pub size_large : (x m p s : ℕ) → m ≡ min x (2 ^ 64 - 1) → s ≡ min (m * p) (2 ^ 64 - 1) → 4 * 10 ^ 18 < s → 4 * 10 ^ 18 < x * p
size_large x m p s e f h = let t : m * p ≤ x * p = mul-le-mul_right p (omega arith) in omega arith

-- what the code counts and sums of a decimal text
module _ (text whole part : List ℕ) (negative : Bool) (shown : IsDecimalText text negative whole part) (places number power size : ℕ)
    (is_places : places ≡ places_in text) (is_number : number ≡ min (digits_in text) (2 ^ 64 - 1))
    (is_power : power ≡ 10 ^ (9 - places)) (is_size : size ≡ min (number * power) (2 ^ 64 - 1)) where
  places_are : places ≡ length part
  places_are = is_places ∙ places_shown text whole part negative shown

  whole_size : digits_in text * power ≡ nano_size whole part
  whole_size = ap (λ n. n * power) (digits_shown text whole part negative shown)
      ∙ ap (λ p. number_of (whole ++ part) * p) (is_power ∙ ap (λ k. 10 ^ (9 - k)) places_are)

  pub size_is : size ≤ 4 * 10 ^ 18 → size ≡ nano_size whole part
  size_is h = size_held (digits_in text) number power size (rw is_power (one-le-pow (9 - places) 10 (omega arith))) is_number is_size h ∙ whole_size

  pub size_above : 4 * 10 ^ 18 < size → 4 * 10 ^ 18 < nano_size whole part
  size_above h = rw (← whole_size) (size_large (digits_in text) number power size is_number is_size h)
