use Rattle.network_theory.proofs.Forests.{forest-tree}
use Rattle.network_theory.proofs.laws.forests_are_trees.Goals as goal

pub returns : goal.returns
returns c = forest-tree
