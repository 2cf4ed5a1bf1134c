use Rattle.std.specs.Prelude.{◌+◌, ◌*◌}
use Rattle.expr_eval.specs.Forms.{size_of}
use Rattle.expr_eval.specs.Trees.{formula_of}
use Rattle.expr_eval.proofs.eval.+conditions.Given as goal

-- a tree comes before the trees that hold it, and a call on its parts in between

abbrev pub decreases-tree_holds : goal.decreases-tree_holds
decreases-tree_holds l = 2 * size_of (formula_of l.e.now)

abbrev pub decreases-not_holds : goal.decreases-not_holds
decreases-not_holds l = 2 * size_of (formula_of l.a.now) + 1

abbrev pub decreases-or_holds : goal.decreases-or_holds
decreases-or_holds l = 2 * (size_of (formula_of l.a.now) + size_of (formula_of l.b.now)) + 1

abbrev pub decreases-and_holds : goal.decreases-and_holds
decreases-and_holds l = 2 * (size_of (formula_of l.a.now) + size_of (formula_of l.b.now)) + 1
