-- Words that are parsed, and the numbers that they write.
use Rattle.std.proofs.Common.{[], ◌∷◌, ◌≡◌, ◌≢◌, ◌≤◌, ◌<◌, ◌==◌, ◌&&◌, ◌||◌, ◌⊎◌, ◌^◌, inl, inr, subst, OkIff, not, nat_le, if◌then◌else◌, ℕ, List, length, get_or, Some, None, Result, Ok, Err, Bool, true, false, le-leb, leb-true, eq-eqb, ne_eqb, refl, sym, arith, eqb-true, zero, suc, ◌∙◌, ap}
use Rattle.std.specs.Str.{all_ascii_digits}
use Rattle.std.specs.Str.Parse.{digits_value, ParsesUnsigned}
use Rattle.std.proofs.lemmas.Str.Parse.{IsNumeralModel, numerals_by_value, tells_all_ascii_digits, parse_plain}
use Rattle.std.specs.Fmt.{decimal, digits as digits_in}
use Rattle.std.proofs.lemmas.Bool.{eqb-false}
use Rattle.std.proofs.lemmas.Fmt.{decimal-digits_value, digits_value-decimal, digits_decimal, decimal_nonempty, first_decimal}
use Rattle.command_words.specs.Numbers.{IsNumber, is_numeral, number_in}
use Rattle.command_words.specs.Options.{least_of, most_of}
use Rattle.command_words.specs.declared.options.Setting.{Setting}
use Rattle.command_words.specs.declared.options.Setting.TheVariants.{Chunk, Queue, Workers, Patience}

digits : IsNumeralModel (λ ds. all_ascii_digits ds ≡ true) (digits_value 10)
digits = numerals_by_value _ tells_all_ascii_digits

abbrev IsParsed : {E : Type 0} → List ℕ → Result ℕ E → Type 0
IsParsed bs r = OkIff r ((all_ascii_digits bs ≡ true) × (0 < length bs) × (digits_value 10 bs < 2 ^ 32)) (digits_value 10 bs)

or_right : (b : Bool) → b || true ≡ true
or_right true = refl
or_right false = refl

-- no zero stands before other digits
first_plain : (bs : List ℕ) → (length bs ≡ 0 → ⊥) → (get_or bs 0 0 ≢ 48) ⊎ (length bs ≤ 1) → (length bs == 1 || not (get_or bs 0 0 == 48)) ≡ true
first_plain bs some (inl other) = rw (ne_eqb (get_or bs 0 0) 48 other) (or_right (length bs == 1))
first_plain bs some (inr short) = rw (eq-eqb (length bs) 1 (omega (arith, some, short))) refl

-- a word that is parsed to a number within bounds
pub is_number : {E : Type 0} (least most : ℕ) (bs : List ℕ) (r : Result ℕ E) (n : ℕ) → r ≡ Ok n → (length bs ≡ 0 → ⊥) → get_or bs 0 0 ≢ 43 → (get_or bs 0 0 ≢ 48) ⊎ (length bs ≤ 1) → ParsesUnsigned 32 10 bs r
    → least ≤ n → n ≤ most → Some n ≡ number_in least most bs
is_number least most bs r n e some plain first h low high =
    let p = subst (IsParsed bs) e (parse_plain digits 32 bs r h plain) in
    rw (p.0.0, ne_eqb (length bs) 0 some, first_plain bs some first, sym p.1, le-leb least n low, le-leb n most high) refl

no_number : (e a c d f : Bool) (v : ℕ) → (a ≡ true → f ≡ true → ⊥) → None ≡ (if (not e && a && c) && d && f then Some v else None)
no_number true a c d f v h = refl
no_number false false c d f v h = refl
no_number false true false d f v h = refl
no_number false true true false f v h = refl
no_number false true true true true v h = absurd (h refl refl)
no_number false true true true false v h = refl

-- a word that isn't parsed writes none
pub is_no_number : {E : Type 0} (least most : ℕ) (bs : List ℕ) (r : Result ℕ E) (e : E) → r ≡ Err e → most < 2 ^ 32 → get_or bs 0 0 ≢ 43 → (length bs ≡ 0 → ⊥) → ParsesUnsigned 32 10 bs r → None ≡ number_in least most bs
is_no_number least most bs r e is fits plain some h =
    let p = subst (IsParsed bs) is (parse_plain digits 32 bs r h plain) in
    no_number (length bs == 0) (all_ascii_digits bs) (length bs == 1 || not (get_or bs 0 0 == 48)) (nat_le least (digits_value 10 bs)) (nat_le (digits_value 10 bs) most) (digits_value 10 bs)
    (λ a f. p (a, omega (arith, some), omega (arith, fits, leb-true (digits_value 10 bs) most f)))

-- what a word writes is found
pub number_found : {least most : ℕ} {word : List ℕ} {n : ℕ} → IsNumber least most word n → number_in least most word ≡ Some n
number_found {least} {most} {word} {n} i = rw (i.numeral, i.value, le-leb least n i.from, le-leb n most i.up_to) refl

-- what is found is written
pub number_written : (least most : ℕ) (word : List ℕ) (n : ℕ) → number_in least most word ≡ Some n → IsNumber least most word n
number_written least most word n e = go (is_numeral word) (nat_le least (digits_value 10 word)) (nat_le (digits_value 10 word) most) refl refl refl e
  where
    go : (a b c : Bool) → is_numeral word ≡ a → nat_le least (digits_value 10 word) ≡ b → nat_le (digits_value 10 word) most ≡ c → (if a && b && c then Some (digits_value 10 word) else None) ≡ Some n → IsNumber least most word n
    go true true true a b c e = let is : digits_value 10 word ≡ n = cc in record { numeral = a; value = is; from = omega (arith, leb-true least (digits_value 10 word) b, is); up_to = omega (arith, leb-true (digits_value 10 word) most c, is) }
    go true true false a b c e = cc
    go true false d a b c e = cc
    go false d f a b c e = cc

-- 1 is a number for each option
pub one_fits : (s : Setting) → IsNumber (least_of s) (most_of s) (49 ∷ []) 1
one_fits Chunk = record { numeral = refl; value = refl; from = omega arith; up_to = omega arith }
one_fits Queue = record { numeral = refl; value = refl; from = omega arith; up_to = omega arith }
one_fits Workers = record { numeral = refl; value = refl; from = omega arith; up_to = omega arith }
one_fits Patience = record { numeral = refl; value = refl; from = omega arith; up_to = omega arith }

-- ---- one way to write a number

all_digits : (word : List ℕ) → is_numeral word ≡ true → (0 < length word) × (all_ascii_digits word ≡ true) × (get_or word 0 0 ≡ 48 → length word ≡ 1)
all_digits word e = go (length word == 0) (all_ascii_digits word) (length word == 1) (get_or word 0 0 == 48) refl refl refl refl e
  where
    go : (a b c d : Bool) → (length word == 0) ≡ a → all_ascii_digits word ≡ b → (length word == 1) ≡ c → (get_or word 0 0 == 48) ≡ d → (not a && b && (c || not d)) ≡ true → (0 < length word) × (all_ascii_digits word ≡ true) × (get_or word 0 0 ≡ 48 → length word ≡ 1)
    go false true true d a b c f e = (omega (arith, eqb-false (length word) 0 a), b, λ z. eqb-true (length word) 1 c)
    go false true false false a b c f e = (omega (arith, eqb-false (length word) 0 a), b, λ z. absurd (eqb-false (get_or word 0 0) 48 f z))
    go false true false true a b c f e = cc
    go false false c d a b x f e = cc
    go true b c d a x y f e = cc

pub written_so : (least most : ℕ) (word : List ℕ) (n : ℕ) → most < 2 ^ 64 → IsNumber least most word n → word ≡ decimal n
written_so least most word n fits i =
    let d = all_digits word i.numeral in
    sym (decimal-digits_value digits word d.1 d.0 d.2 (omega (arith, fits, i.value, i.up_to))) ∙ ap decimal i.value

zero_is : decimal 0 ≡ 48 ∷ []
unfolding digits_in
zero_is = refl

plain_decimal : (n : ℕ) → n < 2 ^ 64 → (get_or (decimal n) 0 0 ≢ 48) ⊎ (length (decimal n) ≤ 1)
plain_decimal zero fits = inr (omega (arith, ap length zero_is))
plain_decimal (suc n) fits = inl (λ e. omega (arith, first_decimal (suc n) (omega arith) fits, e))

pub read_so : (least most n : ℕ) → most < 2 ^ 64 → least ≤ n → n ≤ most → IsNumber least most (decimal n) n
read_so least most n fits low high =
    let small : n < 2 ^ 64 = omega (arith, fits, high) in
    let some : length (decimal n) ≡ 0 → ⊥ = λ e. omega (arith, decimal_nonempty n small, e) in
    record { numeral = rw (ne_eqb (length (decimal n)) 0 some, digits_decimal digits n small, first_plain (decimal n) some (plain_decimal n small)) refl; value = digits_value-decimal digits n small; from = low; up_to = high }
