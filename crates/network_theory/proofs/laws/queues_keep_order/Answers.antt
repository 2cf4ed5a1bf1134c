use Rattle.std.proofs.Common.{◌≢◌, arith, []}
use Rattle.network_theory.proofs.Histories.{in_order-run, length-numbered, opening-in_order}
use Rattle.network_theory.specs.Schedule.{run_schedule}
use Rattle.network_theory.proofs.Openings.{opening-sound}
use Rattle.network_theory.proofs.laws.queues_keep_order.Goals as goal

pub returns : goal.returns
returns g c = λ net root cap ts o s.
    let ok = in_order-run net root cap (λ _. []) (λ _. []) ts o.tree (opening-sound net root o) s (opening-in_order net root cap o) in
    record {
      queue = λ k b. record { order = ok.order k (λ e. omega arith); room = (let e : k ≢ root = (λ z. omega arith) in let l = length-numbered ((run_schedule net root cap ts).numbers k) ((run_schedule net root cap ts).edge k) (ok.level k e) in let r = ok.room k in omega (arith, l, r)); numbers = ok.numbers k; last = ok.last k };
      level = λ k b. ok.level k (λ e. omega arith);
      done = λ k b. ok.done k b;
    }
