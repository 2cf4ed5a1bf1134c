-- what a text is read as
use Rattle.std.specs.Prelude.{◌≡◌, ◌≢◌, ℕ, ◌*◌, ◌^◌, ◌<◌, ◌≤◌, List, [], length, Bool, Result, Ok, Err, ℤ}
use Rattle.decimal_coords.specs.declared.parse.DecFault.{DecFault}
use Rattle.decimal_coords.specs.declared.parse.DecFault.TheVariants.{Empty, BadByte, Places, TooLarge}
use Rattle.decimal_coords.specs.Grammar.{IsDecimalText, IsBadPlace, nano_size, with_sign}

-- the text is a decimal of at most 9 places and at most 4 * 10 ^ 9 in size, which is `nano` nanounits
pub record IsHeldDecimal (text : List ℕ) (nano : ℤ) : Type 0 where
  pub negative : Bool
  pub whole : List ℕ
  pub part : List ℕ
  pub shown : IsDecimalText text negative whole part
  pub places : length part ≤ 9
  pub held : nano_size whole part ≤ 4 * 10 ^ 18
  pub value : nano ≡ with_sign negative (nano_size whole part)

-- it is a decimal of more places
pub record HasMorePlaces (text : List ℕ) : Type 0 where
  pub negative : Bool
  pub whole : List ℕ
  pub part : List ℕ
  pub shown : IsDecimalText text negative whole part
  pub places : 9 < length part

-- it is a decimal of at most 9 places, and larger
pub record IsTooLarge (text : List ℕ) : Type 0 where
  pub negative : Bool
  pub whole : List ℕ
  pub part : List ℕ
  pub shown : IsDecimalText text negative whole part
  pub places : length part ≤ 9
  pub large : 4 * 10 ^ 18 < nano_size whole part

-- the answer for a text
abbrev pub IsParsed : List ℕ → Result ℤ DecFault → Type 0
IsParsed text (Ok nano) = IsHeldDecimal text nano
IsParsed text (Err Empty) = text ≡ []
IsParsed text (Err (BadByte at)) = (text ≢ []) × IsBadPlace text at
IsParsed text (Err Places) = HasMorePlaces text
IsParsed text (Err TooLarge) = IsTooLarge text

-- a text has one answer
abbrev pub ParsedIsOne : Type 0
ParsedIsOne = (text : List ℕ) (r q : Result ℤ DecFault) → IsParsed text r → IsParsed text q → r ≡ q
