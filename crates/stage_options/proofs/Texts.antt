-- Whole numbers that are texts.
use Rattle.std.proofs.Common.{◌≡◌, ◌≢◌, ◌≤◌, ◌<◌, ◌^◌, ◌&&◌, if◌then◌else◌, ℕ, nat_lt, nat_le, List, length, get_or, Some, None, Result, Ok, Err, Bool, true, false, lt-ltb, le-leb, ltb-true, leb-true, refl, sym, arith}
use Rattle.std.specs.Result.{OkIff, result_ok}
use Rattle.std.specs.Str.{all_ascii_digits}
use Rattle.std.specs.Str.Parse.{digits_value, ParsesUnsigned}
use Rattle.std.proofs.lemmas.Str.Parse.{IsNumeralModel, numerals_by_value, tells_all_ascii_digits, parse_plain}
use Rattle.stage_options.specs.Values.{text_whole}

-- digits as a text's own words
digits : IsNumeralModel (λ ds. all_ascii_digits ds ≡ true) (digits_value 10)
digits = numerals_by_value _ tells_all_ascii_digits

no_whole : (a b c d : Bool) (v : ℕ) → (a ≡ true → b ≡ true → c ≡ true → d ≡ true → ⊥) → (if a && b && c then (if d then Some v else None) else None) ≡ None
no_whole true true true true v h = absurd (h refl refl refl refl)
no_whole true true true false v h = refl
no_whole true true false d v h = refl
no_whole true false c d v h = refl
no_whole false b c d v h = refl

-- a short text with no plus before it is a whole number where it is parsed
pub parsed_whole : {E : Type 0} (bs : List ℕ) (r : Result ℕ E) → length bs ≤ 10 → get_or bs 0 0 ≢ 43 → ParsesUnsigned 32 10 bs r → result_ok r ≡ text_whole bs
parsed_whole {E} bs r short plain h = go r (parse_plain digits 32 bs r h plain)
  where
    go : (r : Result ℕ E) → OkIff r ((all_ascii_digits bs ≡ true) × (0 < length bs) × (digits_value 10 bs < 2 ^ 32)) (digits_value 10 bs) → result_ok r ≡ text_whole bs
    go (Ok x) h = rw (h.1, lt-ltb 0 (length bs) h.0.1, le-leb (length bs) 10 short, h.0.0, le-leb (digits_value 10 bs) 4294967295 (omega (arith, h.0.2))) refl
    go (Err e) h = sym (no_whole (nat_lt 0 (length bs)) (nat_le (length bs) 10) (all_ascii_digits bs) (nat_le (digits_value 10 bs) 4294967295) (digits_value 10 bs)
        (λ a b c d. h (c, ltb-true 0 (length bs) a, omega (arith, leb-true (digits_value 10 bs) 4294967295 d))))
