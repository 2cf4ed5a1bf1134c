use Rattle.std.proofs.Common.{List, subst, arith}
use Rattle.network_workers.specs.declared.seats.Seat.{Seat}
use Rattle.network_workers.specs.Stopping.{stops_in, Somewhere, Nowhere}
use Rattle.network_workers.proofs.InTime.{some-among, none-next, none-among}
use Rattle.network_workers.proofs.tail.some_end.Goals as goal

pub returns-then-some_ends-clause-some : goal.returns-then-some_ends-clause-some
returns-then-some_ends-clause-some g c = λ _. some-among c.args.stop c.args.deals.now c.loop-i.i _ (let t = c.loop-i-test.true in omega (arith, t))
    (subst (λ (xs : List (Seat _)). Somewhere (stops_in c.args.stop xs)) c.as_slice.ensures.value (c.some_ends.ensures.some c.if-some_ends.true))

pub loop-i-preserved : goal.loop-i-preserved
loop-i-preserved g c = none-next c.args.stop c.args.deals.now c.loop-i.i _ (let t = c.loop-i-test.true in omega (arith, t)) c.loop-i.invariant
    (subst (λ (xs : List (Seat _)). Nowhere (stops_in c.args.stop xs)) c.as_slice.ensures.value (c.some_ends.ensures.none c.if-some_ends.false))

pub returns-clause-none : goal.returns-clause-none
returns-clause-none g c = λ _. none-among c.args.stop c.args.deals.now (λ i k l. c.loop-i.invariant i k (let t = c.loop-i-test.false in omega (arith, t, l)))
