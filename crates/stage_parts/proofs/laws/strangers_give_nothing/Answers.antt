use Rattle.stage_parts.proofs.Nothing.{nothing_more}
use Rattle.stage_parts.proofs.Trees.{strange}
use Rattle.stage_parts.proofs.laws.strangers_give_nothing.Goals as goal

pub returns : goal.returns
returns c = record {
  strange = strange;
  nothing = nothing_more;
}
