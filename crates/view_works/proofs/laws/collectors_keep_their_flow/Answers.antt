use Rattle.view_works.proofs.Collected.{collected, gave-all}
use Rattle.view_works.proofs.laws.collectors_keep_their_flow.Goals as goal

pub returns : goal.returns
returns c = record { holds = collected; gives = gave-all }
