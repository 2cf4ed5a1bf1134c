use Rattle.stage_parts.proofs.Trees.{own, beyond, gathered-forest, last-forest}
use Rattle.stage_parts.proofs.laws.parts_are_trees.Goals as goal

pub returns : goal.returns
returns c = record {
  gathered = gathered-forest;
  last = last-forest;
  own = own;
  beyond = beyond;
}
