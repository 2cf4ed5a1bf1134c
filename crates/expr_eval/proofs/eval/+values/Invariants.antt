use Rattle.std.specs.Prelude.{◌+◌, ◌*◌}
use Rattle.expr_eval.specs.Forms.{size_of}
use Rattle.expr_eval.specs.Trees.{formula_of}
use Rattle.expr_eval.proofs.eval.+values.Given as goal

-- a tree comes before the trees that hold it, and a call on its parts in between

abbrev pub decreases-tree_value : goal.decreases-tree_value
decreases-tree_value l = 2 * size_of (formula_of l.e.now)

abbrev pub decreases-negative_value : goal.decreases-negative_value
decreases-negative_value l = 2 * size_of (formula_of l.a.now) + 1

abbrev pub decreases-pair_value : goal.decreases-pair_value
decreases-pair_value l = 2 * (size_of (formula_of l.a.now) + size_of (formula_of l.b.now)) + 1
