use Rattle.std.proofs.Common.{◌+◌, ◌≤◌, cond, subst, ◌∙◌, arith}
use Rattle.circular_buffer.proofs.Places.{slice_get-set_other}
use Rattle.network_core.specs.Shown.{turned}
use Rattle.network_theory.specs.Net.{works}
use Rattle.network_workers.specs.Pays.{seat_owes, ends_pay}
use Rattle.network_workers.specs.Seats.{Carries}
use Rattle.network_workers.proofs.Lists.{any_default}
use Rattle.network_workers.proofs.Carrying.{seats-turn, fit-turn}
use Rattle.network_workers.proofs.Paying.{paid-set}
use Rattle.network_workers.proofs.turns.turn_at.Goals as goal

pub returns-clause-fit : goal.returns-clause-fit
returns-clause-fit g c = fit-turn g.W.Work c.args.ins.now.items c.turn_seat.new.ins.items c.args.seats.now.items c.args.at c.turn_seat.new.seat c.turn_seat.ensures.turn.others c.requires.fit c.turn_seat.ensures.turn.fit

pub returns-clause-carries : goal.returns-clause-carries
returns-clause-carries g c = seats-turn g.W.Work c.args.ins.now.items c.turn_seat.new.ins.items c.args.seats.now.items c.args.at c.turn_seat.new.seat c.turn_seat.ensures.turn.ends c.turn_seat.ensures.turn.others
    (λ d l. subst (λ s. Carries g.W.Work c.args.ins.now.items c.turn_seat.new.ins.items c.args.at s c.turn_seat.new.seat)
    (c.index_mut-seat.ensures.value ∙ any_default c.args.seats.now.items c.args.at _ d l) c.turn_seat.ensures.turn.carries)

pub returns-clause-paid : goal.returns-clause-paid
returns-clause-paid g c = paid-set g.W.Work 0 (cond (works (turned c.turn_seat.result)) 1 0) c.args.ins.now.items c.turn_seat.new.ins.items c.args.seats.now.items c.args.at c.turn_seat.new.seat c.index_mut-seat.result.now c.requires.place
    (λ below. let p = subst (λ s. cond (works (turned c.turn_seat.result)) 1 0 + seat_owes g.W.Work (below c.args.at) c.turn_seat.new.seat + ends_pay below c.args.ins.now.items ≤ seat_owes g.W.Work (below c.args.at) s + ends_pay below c.turn_seat.new.ins.items)
    (c.index_mut-seat.ensures.value ∙ any_default c.args.seats.now.items c.args.at _ c.index_mut-seat.result.now c.requires.place) (c.turn_seat.ensures.turn.pays below) in omega (arith, p))

pub returns-clause-others : goal.returns-clause-others
returns-clause-others g c = λ k h. slice_get-set_other c.args.seats.now.items c.args.at k c.turn_seat.new.seat h
