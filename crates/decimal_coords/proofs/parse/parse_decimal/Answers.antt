use Rattle.std.proofs.Common.{arith, ◌≡◌, ◌≢◌, ℕ, ◌-◌, ◌*◌, ◌^◌, ◌≤◌, sym, ap, subst, ◌∙◌, inl, inr, get_or, min, Bool, true, false, pos, neg_ℤ, ◌-ℤ◌, w64, to_z, of_z, [], ◌∷◌, eqb, refl, List, length}
use Rattle.std.proofs.lemmas.Int.{ints}
use Rattle.decimal_coords.specs.Grammar.{IsADecimal, nano_size, with_sign, IsBadPlace}
use Rattle.decimal_coords.specs.Scanning.{digits_in, places_in}
use Rattle.decimal_coords.proofs.Reading.{places_shown, size_is, size_above, sign_shown}
use Rattle.std.specs.Prelude.{Err}
use Rattle.std.proofs.lemmas.Bool.{eqb-true, eq-eqb, true≢false}
use Rattle.decimal_coords.specs.declared.parse.DecFault.TheVariants.{Empty, BadByte}
use Rattle.decimal_coords.proofs.TextDecimals.{is_decimal_of_text}
use Rattle.decimal_coords.proofs.parse.parse_decimal.Goals as goal

pub returns-then-places-gt-PLACES-clause-parsed : goal.returns-then-places-gt-PLACES-clause-parsed
returns-then-places-gt-PLACES-clause-parsed c =
    let v = c.as_bytes-bytes.ensures.value in
    let d : IsADecimal c.args.text.now = subst IsADecimal v c.in_default.ensures.none in
    let l : c.places_in-places.result ≡ places_in c.args.text.now = c.places_in-places.ensures ∙ ap places_in v in
    record { negative = d.0; whole = d.1; part = d.2; shown = d.3; places = omega (arith, places_shown c.args.text.now d.1 d.2 d.0 d.3) }

pub returns-then-size-gt-LIMIT-clause-parsed : goal.returns-then-size-gt-LIMIT-clause-parsed
returns-then-size-gt-LIMIT-clause-parsed c =
    let v = c.as_bytes-bytes.ensures.value in
    let d : IsADecimal c.args.text.now = subst IsADecimal v c.in_default.ensures.none in
    let l : c.places_in-places.result ≡ places_in c.args.text.now = c.places_in-places.ensures ∙ ap places_in v in
    let n : c.number_in.result ≡ min (digits_in c.args.text.now) (2 ^ 64 - 1) = c.number_in.ensures ∙ ap (λ xs. min (digits_in xs) (2 ^ 64 - 1)) v in
    record {
      negative = d.0;
      whole = d.1;
      part = d.2;
      shown = d.3;
      places = omega (arith, places_shown c.args.text.now d.1 d.2 d.0 d.3);
      large = size_above c.args.text.now d.1 d.2 d.0 d.3 c.places_in-places.result c.number_in.result c.power_of_ten.result c.saturating_mul-size.result
          l n c.power_of_ten.ensures.value c.saturating_mul-size.ensures c.if-size-gt-LIMIT.true;
    }

negated : (q : ℕ) → q ≤ 4 * 10 ^ 18 → to_z w64 (of_z w64 (pos 0 -ℤ to_z w64 q)) ≡ neg_ℤ (pos q)
negated q h = omega (arith, ints)

kept : (q : ℕ) → q ≤ 4 * 10 ^ 18 → to_z w64 q ≡ pos q
kept q h = omega (arith, ints)

pub returns-then-bytes-eq45-clause-parsed : goal.returns-then-bytes-eq45-clause-parsed
returns-then-bytes-eq45-clause-parsed c =
    let v = c.as_bytes-bytes.ensures.value in
    let d : IsADecimal c.args.text.now = subst IsADecimal v c.in_default.ensures.none in
    let l : c.places_in-places.result ≡ places_in c.args.text.now = c.places_in-places.ensures ∙ ap places_in v in
    let n : c.number_in.result ≡ min (digits_in c.args.text.now) (2 ^ 64 - 1) = c.number_in.ensures ∙ ap (λ xs. min (digits_in xs) (2 ^ 64 - 1)) v in
    let e = size_is c.args.text.now d.1 d.2 d.0 d.3 c.places_in-places.result c.number_in.result c.power_of_ten.result c.saturating_mul-size.result
    l n c.power_of_ten.ensures.value c.saturating_mul-size.ensures c.if-size-gt-LIMIT.false in
    let f : get_or c.args.text.now 0 0 ≡ 45 = sym (ap (λ xs. get_or xs 0 0) v) ∙ c.if-bytes-eq45.true in
    let s : d.0 ≡ true = elim (sign_shown c.args.text.now d.1 d.2 d.0 d.3) [ inl x ↦ x.1 | inr x ↦ absurd (x.0 f) ] in
    record {
      negative = d.0;
      whole = d.1;
      part = d.2;
      shown = d.3;
      places = omega (arith, places_shown c.args.text.now d.1 d.2 d.0 d.3);
      held = omega arith;
      value = negated c.saturating_mul-size.result c.if-size-gt-LIMIT.false ∙ ap (λ k. neg_ℤ (pos k)) e ∙ ap (λ (b : Bool). with_sign b (nano_size d.1 d.2)) (sym s);
    }

pub returns-else-bytes-eq45-clause-parsed : goal.returns-else-bytes-eq45-clause-parsed
returns-else-bytes-eq45-clause-parsed c =
    let v = c.as_bytes-bytes.ensures.value in
    let d : IsADecimal c.args.text.now = subst IsADecimal v c.in_default.ensures.none in
    let l : c.places_in-places.result ≡ places_in c.args.text.now = c.places_in-places.ensures ∙ ap places_in v in
    let n : c.number_in.result ≡ min (digits_in c.args.text.now) (2 ^ 64 - 1) = c.number_in.ensures ∙ ap (λ xs. min (digits_in xs) (2 ^ 64 - 1)) v in
    let e = size_is c.args.text.now d.1 d.2 d.0 d.3 c.places_in-places.result c.number_in.result c.power_of_ten.result c.saturating_mul-size.result
    l n c.power_of_ten.ensures.value c.saturating_mul-size.ensures c.if-size-gt-LIMIT.false in
    let f : get_or c.args.text.now 0 0 ≢ 45 = λ z. c.if-bytes-eq45.false (ap (λ xs. get_or xs 0 0) v ∙ z) in
    let s : d.0 ≡ false = elim (sign_shown c.args.text.now d.1 d.2 d.0 d.3) [ inl x ↦ absurd (f x.0) | inr x ↦ x.1 ] in
    record {
      negative = d.0;
      whole = d.1;
      part = d.2;
      shown = d.3;
      places = omega (arith, places_shown c.args.text.now d.1 d.2 d.0 d.3);
      held = omega arith;
      value = kept c.saturating_mul-size.result c.if-size-gt-LIMIT.false ∙ ap pos e ∙ ap (λ (b : Bool). with_sign b (nano_size d.1 d.2)) (sym s);
    }

pub returns-then-places-gt-PLACES-clause-value : goal.returns-then-places-gt-PLACES-clause-value
returns-then-places-gt-PLACES-clause-value c = is_decimal_of_text c.args.text.now _ (returns-then-places-gt-PLACES-clause-parsed c)

pub returns-then-size-gt-LIMIT-clause-value : goal.returns-then-size-gt-LIMIT-clause-value
returns-then-size-gt-LIMIT-clause-value c = is_decimal_of_text c.args.text.now _ (returns-then-size-gt-LIMIT-clause-parsed c)

pub returns-then-bytes-eq45-clause-value : goal.returns-then-bytes-eq45-clause-value
returns-then-bytes-eq45-clause-value c = is_decimal_of_text c.args.text.now _ (returns-then-bytes-eq45-clause-parsed c)

pub returns-else-bytes-eq45-clause-value : goal.returns-else-bytes-eq45-clause-value
returns-else-bytes-eq45-clause-value c = is_decimal_of_text c.args.text.now _ (returns-else-bytes-eq45-clause-parsed c)

empty : (text bytes : List ℕ) (b : Bool) → bytes ≡ text → b ≡ eqb (length bytes) 0 → b ≡ true → text ≡ []
empty text bytes b v e t = no_bytes text (sym (ap length v) ∙ eqb-true (length bytes) 0 (sym e ∙ t))
  where
    no_bytes : (xs : List ℕ) → length xs ≡ 0 → xs ≡ []
    no_bytes [] l = refl
    no_bytes (x ∷ xs) l = absurd (omega arith)

not_empty : (text bytes : List ℕ) (b : Bool) → bytes ≡ text → b ≡ eqb (length bytes) 0 → b ≡ false → text ≢ []
not_empty text bytes b v e t n = true≢false (sym (eq-eqb (length bytes) 0 (ap length (v ∙ n))) ∙ sym e ∙ t)

pub returns-then-is_empty-clause-value : goal.returns-then-is_empty-clause-value
returns-then-is_empty-clause-value c = is_decimal_of_text c.args.text.now (Err Empty)
    (empty c.args.text.now c.as_bytes-bytes.result.now c.is_empty.result c.as_bytes-bytes.ensures.value c.is_empty.ensures c.if-is_empty.true)

pub returns-in-Some-clause-value : goal.returns-in-Some-clause-value
returns-in-Some-clause-value c = is_decimal_of_text c.args.text.now (Err (BadByte c.in-Some.at)) (
  not_empty c.args.text.now c.as_bytes-bytes.result.now c.is_empty.result c.as_bytes-bytes.ensures.value c.is_empty.ensures c.if-is_empty.false,
  subst (λ xs. IsBadPlace xs c.in-Some.at) c.as_bytes-bytes.ensures.value c.in-Some.ensures.some,
)
