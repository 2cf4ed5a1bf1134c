use Rattle.network_theory.proofs.Brought.{points-run}
use Rattle.network_theory.proofs.laws.points_come_in_order.Goals as goal

pub returns : goal.returns
returns g c = λ net root cap ts o laws quiet. points-run net root cap ts o.tree laws quiet
