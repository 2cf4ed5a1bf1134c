use Rattle.network_theory.proofs.Openings.{opening-owes}
use Rattle.network_theory.proofs.laws.opening_owes.Goals as goal

pub returns : goal.returns
returns g c = λ net root below o depth. opening-owes net root o below depth
