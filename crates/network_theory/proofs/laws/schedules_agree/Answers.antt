use Rattle.std.proofs.Common.{sym, ◌∙◌}
use Rattle.network_theory.proofs.Run.{last-run}
use Rattle.network_theory.proofs.Openings.{opening-sound}
use Rattle.network_theory.proofs.Falls.{sound-run}
use Rattle.network_theory.proofs.Finals.{closing-run, opening-closing, done-in_rest}
use Rattle.network_theory.specs.Schedule.{run_schedule}
use Rattle.network_theory.proofs.laws.schedules_agree.Goals as goal

pub returns : goal.returns
returns g c = λ net root cap ts us o laws q r f h k b.
    let one = done-in_rest (run_schedule net root cap ts) k (closing-run net root cap ts q k (opening-closing net root o k b)) ((sound-run net root cap ts o.tree (opening-sound net root o)).nodes k) (f k b) ∙ last-run net root cap ts o.tree laws q k in
    let two = done-in_rest (run_schedule net root cap us) k (closing-run net root cap us r k (opening-closing net root o k b)) ((sound-run net root cap us o.tree (opening-sound net root o)).nodes k) (h k b) ∙ last-run net root cap us o.tree laws r k in
    record { alike = one ∙ sym two; in_rest = one }
