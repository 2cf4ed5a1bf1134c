use Rattle.std.proofs.Common.{subst}
use Rattle.std.specs.Prelude.{slice_index_or}
use Rattle.std.proofs.lemmas.Option.{slice_get-get_or}
use Rattle.network_workers.specs.Pays.{SeatsPaid}
use Rattle.network_workers.specs.Seats.{SeatsCarry}
use Rattle.network_workers.proofs.Lists.{any_default}
use Rattle.network_workers.proofs.Carrying.{deals-turn, deals_fit-turn}
use Rattle.network_workers.proofs.Paying.{deals_paid-set}
use Rattle.network_workers.proofs.InTime.{taken-deal}
use Rattle.network_workers.proofs.tail.turn_deal.Goals as goal

pub returns-clause-carries : goal.returns-clause-carries
returns-clause-carries g c = deals-turn g.W.Work _ c.args.i _
    (λ d l. subst (λ s. SeatsCarry g.W.Work s.ins.items c.turn_each.new.ins.items s.seats.items c.turn_each.new.seats.items) (any_default c.args.deals.now c.args.i c.index-deals-i.result d c.requires.place) c.turn_each.ensures.carries)

pub returns-clause-fit : goal.returns-clause-fit
returns-clause-fit g c = deals_fit-turn g.W.Work _ c.args.i _ c.requires.fit c.turn_each.ensures.fit

pub returns-clause-paid : goal.returns-clause-paid
returns-clause-paid g c = deals_paid-set g.W.Work _ _ _ c.args.i _ c.index-deals-i.result c.requires.place
    (subst (λ s. SeatsPaid g.W.Work c.args.steps.now c.turn_each.new.steps s.ins.items c.turn_each.new.ins.items s.seats.items c.turn_each.new.seats.items) (any_default c.args.deals.now c.args.i c.index-deals-i.result c.index-deals-i.result c.requires.place) c.turn_each.ensures.paid)

pub returns-clause-taken : goal.returns-clause-taken
returns-clause-taken g c = taken-deal c.args.stop _ c.args.deals.now c.args.i (slice_index_or c.args.deals.now c.args.i c.index-deals-i.result) _
    (slice_get-get_or c.args.deals.now c.args.i c.index-deals-i.result c.requires.place) c.turn_each.ensures.taken
