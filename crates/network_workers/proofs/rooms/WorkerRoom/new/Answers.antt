use Rattle.std.proofs.Common.{◌-◌, ◌<◌, ◌≤◌, length, subst, arith}
use Rattle.network_theory.specs.Forest.{count_in}
use Rattle.network_workers.specs.Lists.{Each}
use Rattle.network_workers.specs.Rooms.{IsIdle}
use Rattle.network_workers.proofs.NewRoom.{new-room}
use Rattle.network_workers.proofs.rooms.WorkerRoom.new.Goals as goal

pub invariant_of-result : goal.invariant_of-result
invariant_of-result g c =
    let some : 0 < c.min-workers.result = (let one = c.requires.one in let min = c.min-workers.ensures in let max = c.max.ensures in omega (arith, one, min, max)) in
    let most : c.min-workers.result ≤ 32 = (let most = c.requires.most in let min = c.min-workers.ensures in omega (arith, most, min)) in
    record {
      sound = new-room c.in_ok-takers.takers.items c.in_ok-outs.field-0.outs.cap c.min-workers.result c.args.own.now c.in_ok-outs.field-0.outs.items c.in_ok-outs.field-0.inns.items c.in_ok-deals.deals.items
          c.requires.some c.requires.few some most c.in_ok-outs.ensures.room c.in_ok-outs.ensures.ends c.in_ok-takers.ensures c.in_ok-deals.ensures.count
          (subst (λ gs. Each (λ i deal. IsIdle (count_in i gs) (length c.args.own.now - 1) deal) c.in_ok-deals.deals.items) c.as_slice.ensures.value c.in_ok-deals.ensures.idle);
    }
