-- Values of extra dimensions that are written are read.
use Rattle.std.specs.Prelude.{◌≡◌, ℕ, ℤ, pos, FitsSigned, List, Some}
use Rattle.std.specs.Int.{w64}
use Rattle.cloud_points.specs.declared.extra.ExtraKind.TheVariants.{I64}
use Rattle.cloud_points.specs.declared.extra.ExtraField.{ExtraField}
use Rattle.extra_bytes.specs.Values.{LiesIn, value_of, extra_value, raw_of, extra_written}

-- what is read is the value of the raw number that is nearest to the value which was written
abbrev pub NearestIsRead : Type 0
NearestIsRead = (f : ExtraField) (nano : ℤ) (before after : List ℕ) → LiesIn f before → extra_written f nano before ≡ Some after
    → extra_value f after ≡ value_of f (raw_of f nano)

-- it is that value itself, where that is a whole number of steps from the offset
abbrev pub ExactIsRead : Type 0
ExactIsRead = (f : ExtraField) (nano steps : ℤ) (before after : List ℕ) → nano ≡ value_of f steps → LiesIn f before
    → extra_written f nano before ≡ Some after → extra_value f after ≡ nano

-- 64 bits with a sign, in steps of a nanounit from 0
pub record IsFine (f : ExtraField) : Type 0 where
  pub kind : f.kind ≡ I64
  pub scale : f.scale.nano ≡ pos 1
  pub offset : f.offset ≡ pos 0

-- the record that such a field is written into, and its value there
pub record TakesAll (f : ExtraField) (nano : ℤ) (before : List ℕ) : Type 0 where
  pub after : List ℕ
  pub written : extra_written f nano before ≡ Some after
  pub value : extra_value f after ≡ nano

-- such a field takes each number of nanounits in 64 bits, and it is read
abbrev pub FineTakesAll : Type 0
FineTakesAll = (f : ExtraField) (nano : ℤ) (before : List ℕ) → IsFine f → FitsSigned w64 nano → LiesIn f before → TakesAll f nano before
