use Rattle.network_theory.proofs.Depths.{depths}
use Rattle.network_theory.proofs.laws.trees_have_depths.Goals as goal

pub returns : goal.returns
returns c = depths
