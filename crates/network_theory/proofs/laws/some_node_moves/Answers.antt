use Rattle.network_theory.proofs.Moves.{some_moves}
use Rattle.network_theory.proofs.Openings.{opening-sound}
use Rattle.network_theory.proofs.Falls.{tree-run, sound-run}
use Rattle.network_theory.specs.Schedule.{run_schedule}
use Rattle.network_theory.proofs.laws.some_node_moves.Goals as goal

pub returns : goal.returns
returns g c = λ net root cap ts o room k b d. some_moves (run_schedule net root cap ts) root cap (tree-run net root cap ts o.tree) (sound-run net root cap ts o.tree (opening-sound net root o)) room k b d
