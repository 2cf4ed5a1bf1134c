use Rattle.network_theory.proofs.Openings.{opening-sound}
use Rattle.network_theory.proofs.Falls.{sound-run}
use Rattle.network_theory.proofs.laws.nets_stay_sound.Goals as goal

pub returns : goal.returns
returns g c = λ net root cap ts o. sound-run net root cap ts o.tree (opening-sound net root o)
