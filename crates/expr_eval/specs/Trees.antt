-- The formula of a tree over dimensions.
use Rattle.cloud_points.specs.declared.dims.Dim as declared
use Rattle.expr_lang.specs.declared.op.BinaryOp.TheVariants as op
use Rattle.expr_lang.specs.Formula.{Formula, number, name, minus, not, binary}
use Rattle.expr_eval.specs.declared.bound.BoundTree.{BoundTree}
use Rattle.expr_eval.specs.declared.bound.BoundTree.TheVariants.{Number, Dim, Negative', Not', Or', And', Equal', Different', AtMost', AtLeast', Below', Above', Sum', Difference', Product', Quotient'}

-- the formula that a tree says
abbrev pub formula_of : BoundTree → Formula declared.Dim
formula_of (Number n) = number n
formula_of (Dim d) = name d
formula_of (Negative' p a) = minus (formula_of a)
formula_of (Not' p a) = not (formula_of a)
formula_of (Or' p a q b) = binary op.Or (formula_of a) (formula_of b)
formula_of (And' p a q b) = binary op.And (formula_of a) (formula_of b)
formula_of (Equal' p a q b) = binary op.Equal (formula_of a) (formula_of b)
formula_of (Different' p a q b) = binary op.Different (formula_of a) (formula_of b)
formula_of (AtMost' p a q b) = binary op.AtMost (formula_of a) (formula_of b)
formula_of (AtLeast' p a q b) = binary op.AtLeast (formula_of a) (formula_of b)
formula_of (Below' p a q b) = binary op.Below (formula_of a) (formula_of b)
formula_of (Above' p a q b) = binary op.Above (formula_of a) (formula_of b)
formula_of (Sum' p a q b) = binary op.Plus (formula_of a) (formula_of b)
formula_of (Difference' p a q b) = binary op.Minus (formula_of a) (formula_of b)
formula_of (Product' p a q b) = binary op.Times (formula_of a) (formula_of b)
formula_of (Quotient' p a q b) = binary op.Over (formula_of a) (formula_of b)
