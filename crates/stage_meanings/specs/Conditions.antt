-- Conditions and values of a point.
use Rattle.std.specs.Prelude.{ℤ, Bool, true, Option, Some, None, Result, Ok, Err}
use Rattle.cloud_points.specs.declared.point.Point.{Point}
use Rattle.cloud_points.specs.declared.dims.Dim.{Dim}
use Rattle.expr_lang.specs.Formula.{Formula}
use Rattle.expr_eval.specs.Values.{holds_at, value_of}
use Rattle.expr_eval.specs.declared.arith.ArithFault.{ArithFault}
use Rattle.expr_eval.specs.declared.arith.ArithFault.TheVariants as arith
use Rattle.stage_meanings.specs.declared.reason.Reason.{Reason}
use Rattle.stage_meanings.specs.declared.reason.Reason.TheVariants as reason

abbrev pub arith_reason : ArithFault → Reason
arith_reason arith.DivideByZero = reason.DivideByZero
arith_reason arith.ArithOverflow = reason.ArithOverflow

-- why it has no value, as the reason of a stage
abbrev pub or_reason : {A : Type 0} → Result A ArithFault → Result A Reason
or_reason (Ok x) = Ok x
or_reason (Err fault) = Err (arith_reason fault)

-- a condition as a test of a point, and the right side of an assignment
abbrev pub condition : Formula Dim → Point → Result Bool Reason
condition c p = or_reason (holds_at c p)

abbrev pub worth : Formula Dim → Point → Result ℤ Reason
worth e p = or_reason (value_of e p)

-- a point passes a `where` that holds for it; where there is none, each point does
abbrev pub passes : Option (Formula Dim) → Point → Result Bool Reason
passes None p = Ok true
passes (Some c) p = condition c p
