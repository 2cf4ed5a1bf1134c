-- what a text is read as, computed
use Rattle.std.specs.Prelude.{ℕ, ◌+◌, ◌-◌, ◌*◌, ◌^◌, List, [], ◌∷◌, slice_index, nat_lt, ◌==◌, Bool, true, false, if◌then◌else◌, Option, Some, None, Result, Ok, Err, ℤ}
use Rattle.decimal_coords.specs.declared.parse.DecFault.{DecFault}
use Rattle.decimal_coords.specs.declared.parse.DecFault.TheVariants.{Empty, BadByte, Places, TooLarge}
use Rattle.decimal_coords.specs.declared.scan.Scan.{Scan}
use Rattle.decimal_coords.specs.declared.scan.Scan.TheVariants.{Start, Signed, Whole, Point, Places as Placed, Dead}
use Rattle.decimal_coords.specs.Grammar.{with_sign}
use Rattle.decimal_coords.specs.Parsed.{IsParsed}
use Rattle.decimal_coords.specs.Scanning.{after, accepts, digits_in, places_in}

abbrev pub is_dead : Scan → Bool
is_dead Start = false
is_dead Signed = false
is_dead Whole = false
is_dead Point = false
is_dead Placed = false
is_dead Dead = true

-- the place at which a text stops being the front of a decimal, where `at` bytes stand before it and were read to `state`
abbrev pub bad_place : Scan → ℕ → List ℕ → Option ℕ
bad_place state at [] = if accepts state then None else Some at
bad_place state at (b ∷ bs) = if is_dead (after state b) then Some at else bad_place (after state b) (at + 1) bs

-- the value of a decimal text
abbrev pub value_of : List ℕ → Result ℤ DecFault
value_of text = let size = digits_in text * 10 ^ (9 - places_in text) in
    if nat_lt 9 (places_in text) then Err Places
    else (if nat_lt (4 * 10 ^ 18) size then Err TooLarge
    else Ok (with_sign (slice_index text 0 == 45) size))

abbrev pub bad_or : Option ℕ → Result ℤ DecFault → Result ℤ DecFault
bad_or (Some at) other = Err (BadByte at)
bad_or None other = other

unfoldable pub decimal_of_text : List ℕ → Result ℤ DecFault
decimal_of_text [] = Err Empty
decimal_of_text (b ∷ bs) = bad_or (bad_place Start 0 (b ∷ bs)) (value_of (b ∷ bs))

-- it is the answer for the text
abbrev pub DecimalOfTextIsParsed : Type 0
DecimalOfTextIsParsed = (text : List ℕ) → IsParsed text (decimal_of_text text)
