use Rattle.network_theory.proofs.CarriedTurn.{turn-carries}
use Rattle.network_theory.proofs.laws.turns_carry.Goals as goal

pub returns : goal.returns
returns g c = λ root cap ch n input out law reads quiet. let k = turn-carries root n input out cap ch law reads quiet in (k.a, k.b, k.took, k.gave, k.carried)
