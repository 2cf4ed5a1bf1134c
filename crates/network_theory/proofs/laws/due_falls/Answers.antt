use Rattle.network_theory.proofs.Openings.{opening-sound}
use Rattle.network_theory.proofs.Falls.{tree-run, sound-run, below-run, lowers-due}
use Rattle.network_theory.specs.Schedule.{run_schedule}
use Rattle.network_theory.proofs.laws.due_falls.Goals as goal

pub returns : goal.returns
returns g c = λ net root cap ts below o depth i ch b allowed. lowers-due (run_schedule net root cap ts) root cap below i ch (tree-run net root cap ts o.tree) (sound-run net root cap ts o.tree (opening-sound net root o)) (below-run net root cap ts below depth) b allowed
