use Rattle.network_theory.proofs.Streaming.{streams-at}
use Rattle.network_theory.proofs.laws.flows_are_streamed.Goals as goal

pub returns : goal.returns
returns g c = streams-at
