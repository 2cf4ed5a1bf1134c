-- a text has one answer
use Rattle.std.proofs.Common.{◌≡◌, ◌≢◌, ℕ, ◌+◌, ◌-◌, ◌*◌, ◌^◌, ◌<◌, ◌≤◌, arith, sym, refl, ap, subst, ◌∙◌, inl, inr, List, [], ◌++◌, length, take, drop, take-take, Bool, append_assoc, length-append}
use Rattle.std.specs.Prelude.{Result, Ok, Err, ℤ}
use Rattle.std.proofs.lemmas.List.{take-append-drop}
use Rattle.std.proofs.lemmas.Bool.{cases_order, cases_lt}
use Rattle.decimal_coords.specs.declared.parse.DecFault.{DecFault}
use Rattle.decimal_coords.specs.declared.parse.DecFault.TheVariants.{Empty, BadByte, Places, TooLarge}
use Rattle.decimal_coords.specs.Grammar.{IsDecimalText, IsADecimal, CanGoOn, IsBadPlace, number_of, nano_size, with_sign}
use Rattle.decimal_coords.specs.Parsed.{IsHeldDecimal, HasMorePlaces, IsTooLarge, IsParsed}
use Rattle.decimal_coords.proofs.Reading.{digits_shown, places_shown, sign_shown}

not_empty : (text whole part : List ℕ) (negative : Bool) → IsDecimalText text negative whole part → text ≢ []
not_empty text whole part negative d e =
    let l = ap length d.shown in
    let z = ap length e in
    let a = length-append d.sign (whole ++ d.tail) in
    let b = length-append whole d.tail in
    elim d.tail_is [
      | inl t ↦ let p = ap length t.1 in let s = d.some in omega arith
      | inr t ↦ let p = ap length t in omega arith
    ]

-- the front of what can go on can go on
shorter : (text : List ℕ) (i j : ℕ) → i ≤ j → CanGoOn (take j text) → CanGoOn (take i text)
shorter text i j h (more, d) =
    let cut : take j text ≡ take i text ++ drop i (take j text) = sym (take-append-drop i (take j text)) ∙ ap (λ xs. xs ++ drop i (take j text)) (take-take i j text h) in
    (drop i (take j text) ++ more, subst IsADecimal (ap (λ xs. xs ++ more) cut ∙ append_assoc (take i text) (drop i (take j text)) more) d)

-- a decimal has no bad place
not_bad : (text : List ℕ) (at : ℕ) → IsADecimal text → IsBadPlace text at → ⊥
not_bad text at d b = elim (cases_lt at (length text)) [
  | inl h ↦ b.stops h (drop (at + 1) text, subst IsADecimal (sym (take-append-drop (at + 1) text)) d)
  | inr h ↦ let w = b.within in b.early (omega arith) d
]

not_before : (text : List ℕ) (i j : ℕ) → i < j → IsBadPlace text i → IsBadPlace text j → ⊥
not_before text i j h p q = p.stops (let w = q.within in omega arith) (shorter text (i + 1) j (omega arith) q.front)

one_place : (text : List ℕ) (i j : ℕ) → IsBadPlace text i → IsBadPlace text j → i ≡ j
one_place text i j p q = elim (cases_order i j) [
  | inl e ↦ e
  | inr (inl h) ↦ absurd (not_before text i j h p q)
  | inr (inr h) ↦ absurd (not_before text j i h q p)
]

-- two readings of a text agree on what is asked of them
record Agree (b c : Bool) (v p w q : List ℕ) : Type 0 where
  signs : b ≡ c
  places : length p ≡ length q
  sizes : nano_size v p ≡ nano_size w q

agree : (text v p w q : List ℕ) (b c : Bool) → IsDecimalText text b v p → IsDecimalText text c w q → Agree b c v p w q
agree text v p w q b c d e =
    let l : length p ≡ length q = sym (places_shown text v p b d) ∙ places_shown text w q c e in
    let n : number_of (v ++ p) ≡ number_of (w ++ q) = sym (digits_shown text v p b d) ∙ digits_shown text w q c e in
    record {
      signs = elim (sign_shown text v p b d) [
        | inl x ↦ elim (sign_shown text w q c e) [ inl y ↦ x.1 ∙ sym y.1 | inr y ↦ absurd (y.0 x.0) ]
        | inr x ↦ elim (sign_shown text w q c e) [ inl y ↦ absurd (x.0 y.0) | inr y ↦ x.1 ∙ sym y.1 ]
      ];
      places = l;
      sizes = ap (λ k. k * 10 ^ (9 - length p)) n ∙ ap (λ k. number_of (w ++ q) * 10 ^ (9 - k)) l;
    }

one_value : (text : List ℕ) (m n : ℤ) → IsHeldDecimal text m → IsHeldDecimal text n → m ≡ n
one_value text m n p q =
    let a = agree text p.whole p.part q.whole q.part p.negative q.negative p.shown q.shown in
    p.value ∙ ap (λ (b : Bool). with_sign b (nano_size p.whole p.part)) a.signs ∙ ap (with_sign q.negative) a.sizes ∙ sym q.value

value_places : (text : List ℕ) (n : ℤ) → IsHeldDecimal text n → HasMorePlaces text → ⊥
value_places text n p q =
    let a = agree text p.whole p.part q.whole q.part p.negative q.negative p.shown q.shown in
    let l = a.places in let x = p.places in let y = q.places in omega arith

value_large : (text : List ℕ) (n : ℤ) → IsHeldDecimal text n → IsTooLarge text → ⊥
value_large text n p q =
    let a = agree text p.whole p.part q.whole q.part p.negative q.negative p.shown q.shown in
    let l = a.sizes in let x = p.held in let y = q.large in omega arith

places_large : (text : List ℕ) → HasMorePlaces text → IsTooLarge text → ⊥
places_large text p q =
    let a = agree text p.whole p.part q.whole q.part p.negative q.negative p.shown q.shown in
    let l = a.places in let x = p.places in let y = q.places in omega arith

pub one_answer : (text : List ℕ) (r q : Result ℤ DecFault) → IsParsed text r → IsParsed text q → r ≡ q
one_answer text (Ok m) (Ok n) p q = ap Ok (one_value text m n p q)
one_answer text (Ok m) (Err Empty) p q = absurd (not_empty text p.whole p.part p.negative p.shown q)
one_answer text (Ok m) (Err (BadByte at)) p q = absurd (not_bad text at (p.negative, p.whole, p.part, p.shown) q.1)
one_answer text (Ok m) (Err Places) p q = absurd (value_places text m p q)
one_answer text (Ok m) (Err TooLarge) p q = absurd (value_large text m p q)
one_answer text (Err Empty) (Ok n) p q = absurd (not_empty text q.whole q.part q.negative q.shown p)
one_answer text (Err Empty) (Err Empty) p q = refl
one_answer text (Err Empty) (Err (BadByte at)) p q = absurd (q.0 p)
one_answer text (Err Empty) (Err Places) p q = absurd (not_empty text q.whole q.part q.negative q.shown p)
one_answer text (Err Empty) (Err TooLarge) p q = absurd (not_empty text q.whole q.part q.negative q.shown p)
one_answer text (Err (BadByte at)) (Ok n) p q = absurd (not_bad text at (q.negative, q.whole, q.part, q.shown) p.1)
one_answer text (Err (BadByte at)) (Err Empty) p q = absurd (p.0 q)
one_answer text (Err (BadByte i)) (Err (BadByte j)) p q = ap (λ k. Err (BadByte k)) (one_place text i j p.1 q.1)
one_answer text (Err (BadByte at)) (Err Places) p q = absurd (not_bad text at (q.negative, q.whole, q.part, q.shown) p.1)
one_answer text (Err (BadByte at)) (Err TooLarge) p q = absurd (not_bad text at (q.negative, q.whole, q.part, q.shown) p.1)
one_answer text (Err Places) (Ok n) p q = absurd (value_places text n q p)
one_answer text (Err Places) (Err Empty) p q = absurd (not_empty text p.whole p.part p.negative p.shown q)
one_answer text (Err Places) (Err (BadByte at)) p q = absurd (not_bad text at (p.negative, p.whole, p.part, p.shown) q.1)
one_answer text (Err Places) (Err Places) p q = refl
one_answer text (Err Places) (Err TooLarge) p q = absurd (places_large text p q)
one_answer text (Err TooLarge) (Ok n) p q = absurd (value_large text n q p)
one_answer text (Err TooLarge) (Err Empty) p q = absurd (not_empty text p.whole p.part p.negative p.shown q)
one_answer text (Err TooLarge) (Err (BadByte at)) p q = absurd (not_bad text at (p.negative, p.whole, p.part, p.shown) q.1)
one_answer text (Err TooLarge) (Err Places) p q = absurd (places_large text q p)
one_answer text (Err TooLarge) (Err TooLarge) p q = refl
