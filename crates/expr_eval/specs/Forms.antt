-- The formula of a form.
use Rattle.std.specs.Prelude.{ℕ, ◌+◌, List}
use Rattle.expr_lang.specs.Formula.{Formula, number, name, minus, not, binary}
use Rattle.expr_lang.specs.Trees.{formula_of}
use Rattle.expr_eval.specs.declared.bind.Form.{Form}
use Rattle.expr_eval.specs.declared.bind.Form.TheVariants.{Number, Name, Negative, Not, Pair}

abbrev pub form_formula : Form → Formula (List ℕ)
form_formula (Number n) = number n
form_formula (Name n) = name n.now
form_formula (Negative a) = minus (formula_of a.now)
form_formula (Not a) = not (formula_of a.now)
form_formula (Pair o a b) = binary o (formula_of a.now) (formula_of b.now)

-- how many parts a formula has
abbrev pub size_of : {N : Type 0} → Formula N → ℕ
size_of (number n) = 1
size_of (name n) = 1
size_of (minus a) = size_of a + 1
size_of (not a) = size_of a + 1
size_of (binary o a b) = size_of a + size_of b + 1
