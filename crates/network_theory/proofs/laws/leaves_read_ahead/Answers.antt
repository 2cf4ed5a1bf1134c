use Rattle.network_theory.proofs.Counting.{leaves-ahead}
use Rattle.network_theory.proofs.laws.leaves_read_ahead.Goals as goal

pub returns : goal.returns
returns g c = leaves-ahead _ _ _
