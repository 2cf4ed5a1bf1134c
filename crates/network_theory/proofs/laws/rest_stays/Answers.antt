use Rattle.network_theory.proofs.Run.{last-run}
use Rattle.network_theory.proofs.laws.rest_stays.Goals as goal

pub returns : goal.returns
returns g c = λ net root cap ts o laws quiet. last-run net root cap ts o.tree laws quiet
