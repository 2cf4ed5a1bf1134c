-- What an expression says, apart from where it lies in memory.
use Rattle.std.specs.Prelude.{ℤ, Bool, true, false}
use Rattle.expr_lang.specs.declared.op.BinaryOp.{BinaryOp}
use Rattle.expr_lang.specs.declared.op.BinaryOp.TheVariants.{Or, And, Plus, Minus, Times, Over}

-- a formula over names of some kind; its numbers are in nanounits
pub data Formula (N : Type 0) : Type 0 where
  number : ℤ → Formula N
  name : N → Formula N
  minus : Formula N → Formula N
  not : Formula N → Formula N
  binary : BinaryOp → Formula N → Formula N → Formula N

-- whether an operator makes a condition, and not a value
abbrev pub makes_condition : BinaryOp → Bool
makes_condition Plus = false
makes_condition Minus = false
makes_condition Times = false
makes_condition Over = false
makes_condition _ = true

-- whether an operator takes conditions, and not values
abbrev pub takes_conditions : BinaryOp → Bool
takes_conditions Or = true
takes_conditions And = true
takes_conditions _ = false

-- whether a formula is a condition, and not a value
abbrev pub is_condition : {N : Type 0} → Formula N → Bool
is_condition (number n) = false
is_condition (name n) = false
is_condition (minus a) = false
is_condition (not a) = true
is_condition (binary o a b) = makes_condition o

-- the formula with other names in the places of its names
abbrev pub renamed : {N M : Type 0} → (N → M) → Formula N → Formula M
renamed f (number n) = number n
renamed f (name n) = name (f n)
renamed f (minus a) = minus (renamed f a)
renamed f (not a) = not (renamed f a)
renamed f (binary o a b) = binary o (renamed f a) (renamed f b)
