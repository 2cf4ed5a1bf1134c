use Rattle.expr_lang.specs.Trees as texts
use Rattle.expr_eval.specs.Forms.{size_of}
use Rattle.expr_eval.proofs.bind.+bind_tree.Given as goal

abbrev pub decreases-bind_tree : goal.decreases-bind_tree
decreases-bind_tree l = size_of (texts.formula_of l.e.now)
