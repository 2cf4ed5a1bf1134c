use Rattle.std.proofs.Common.{◌≡◌, subst, sym, ◌∙◌, arith}
use Rattle.network_theory.specs.Forest.{count_in}
use Rattle.network_workers.specs.Rooms.{IsIdle}
use Rattle.network_workers.proofs.Going.{count_in-is}
use Rattle.network_workers.proofs.NewEnds.{length-one}
use Rattle.network_workers.proofs.NewRoom.{one-idle}
use Rattle.network_workers.proofs.rooms.WorkerRoom.new_deals.Goals as goal

pub loop-worker-preserved : goal.loop-worker-preserved
loop-worker-preserved g c =
    let now = c.loop-worker.invariant in
    let pushed = c.push_reserved.ensures in
    let seats : c.seats_of.result ≡ count_in c.loop-worker.worker c.args.takers.now = c.seats_of.ensures ∙ sym (count_in-is c.loop-worker.worker c.args.takers.now) in (
      one-idle c.args.takers.now c.args.ends c.loop-worker.deals.items c.push_reserved.new.self.items c.in-Ok.deal c.loop-worker.worker pushed.items now.1 now.0
          (subst (λ n. IsIdle n c.args.ends c.in-Ok.deal) seats c.in-Ok.ensures),
      length-one c.loop-worker.deals.items c.push_reserved.new.self.items c.in-Ok.deal c.loop-worker.worker pushed.items now.1,
      pushed.capacity ∙ now.2,
      (let t = c.loop-worker-test.true in let e = c.loop-worker.auto.worker-end in omega (arith, t, e)),
    )

pub end_deals-requires : goal.end_deals-requires
end_deals-requires g c = λ i d l. (c.loop-worker.invariant.0 i d l).none
