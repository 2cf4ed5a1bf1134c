-- Names in descriptors.
use Rattle.std.proofs.Common.{◌≡◌, ℕ, ◌<◌, ◌≤◌, ◌==◌, nat_lt, Bool, true, false, List, [], ◌∷◌, length, take, position, cond, Some, None, All, refl, sym, ap, arith}
use Rattle.std.specs.List.{position_or_len, before_first, list_all}
use Rattle.std.specs.Str.{IsUtf8}
use Rattle.std.proofs.lemmas.Option.{none-some, same_Some}
use Rattle.std.proofs.lemmas.Bool.{and_parts}
use Rattle.std.proofs.lemmas.Bool.Decides.{nat_tests}
use Rattle.std.proofs.lemmas.List.Elements.{All-cons, All-nil}
use Rattle.std.proofs.lemmas.Str.{IsUtf8-from_ascii}
use Rattle.std.proofs.lemmas.Str.Ascii.{IsAscii-from_all}
use Rattle.std.proofs.lemmas.List.{take_all}
use Rattle.text_bytes.specs.Bytes.{is_letter, is_name, is_word}

abbrev is_zero : ℕ → Bool
is_zero b = b == 0

-- the place of the first zero byte is where the text is cut
cut_by : (within : Bool) (n end : ℕ) → cond within (Some n) None ≡ Some end → n ≡ end
cut_by true n end e = same_Some n end e
cut_by false n end e = absurd (none-some end e)

whole_by : (within : Bool) (n : ℕ) → cond within (Some n) None ≡ None → within ≡ false
whole_by true n e = absurd (none-some n (sym e))
whole_by false n e = refl

within_by : (within : Bool) (n end : ℕ) → cond within (Some n) None ≡ Some end → within ≡ true
within_by true n end e = refl
within_by false n end e = absurd (none-some end e)

pub text_cut : (xs : List ℕ) (end : ℕ) → position (λ b. b == 0) xs ≡ Some end → take end xs ≡ before_first (λ b. b == 0) xs
text_cut xs end e = ap (λ n. take n xs) (sym (cut_by (nat_lt (position_or_len is_zero xs) (length xs)) (position_or_len is_zero xs) end e))

pub cut_within : (xs : List ℕ) (end : ℕ) → position (λ b. b == 0) xs ≡ Some end → end ≤ length xs
cut_within xs end e =
    let n : ℕ = position_or_len is_zero xs in
    let same : n ≡ end = cut_by (nat_lt n (length xs)) n end e in
    let is = within_by (nat_lt n (length xs)) n end e in
    let below : n < length xs = grind (arith, nat_tests, is) in
    omega (arith, same, below)

pub text_whole : (xs : List ℕ) → position (λ b. b == 0) xs ≡ None → xs ≡ before_first (λ b. b == 0) xs
text_whole xs e =
    let n : ℕ = position_or_len is_zero xs in
    let is = whole_by (nat_lt n (length xs)) n e in
    let all : length xs ≤ n = grind (arith, nat_tests, is) in
    sym (take_all n xs all)

-- a name is text
first_low : (b : ℕ) → is_letter b ≡ true → b < 128
first_low b e = grind (arith, nat_tests)

next_low : (b : ℕ) → is_word b ≡ true → b < 128
next_low b e = grind (arith, nat_tests)

all_low : (bs : List ℕ) → list_all is_word bs ≡ true → All (λ b. b < 128) bs
all_low [] e = All-nil (λ b. b < 128)
all_low (b ∷ bs) e =
    let (first, rest) = and_parts (is_word b) (list_all is_word bs) e in
    All-cons (λ b. b < 128) b bs (next_low b first) (all_low bs rest)

name_low : (bs : List ℕ) → is_name bs ≡ true → All (λ b. b < 128) bs
name_low [] e = All-nil (λ b. b < 128)
name_low (b ∷ bs) e =
    let (first, rest) = and_parts (is_letter b) (list_all is_word bs) e in
    All-cons (λ b. b < 128) b bs (first_low b first) (all_low bs rest)

pub name_is_text : (bs : List ℕ) → is_name bs ≡ true → IsUtf8 bs
name_is_text bs e = IsUtf8-from_ascii bs (IsAscii-from_all bs (name_low bs e))

no_name_by : (bs : List ℕ) (is : Bool) → is_name bs ≡ is → ¬ (IsUtf8 bs) → is ≡ false
no_name_by bs true e wrong = absurd (wrong (name_is_text bs e))
no_name_by bs false e wrong = refl

pub no_name : (bs : List ℕ) → ¬ (IsUtf8 bs) → is_name bs ≡ false
no_name bs wrong = no_name_by bs (is_name bs) refl wrong
