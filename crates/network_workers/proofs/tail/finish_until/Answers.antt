use Rattle.std.proofs.Common.{refl, sym, subst}
use Rattle.network_workers.specs.Stopping.{stops_among, Somewhere}
use Rattle.network_workers.proofs.Carrying.{deals-nothing, deals-on}
use Rattle.network_workers.proofs.Paying.{deals_paid-nothing, deals_paid-on}
use Rattle.network_workers.proofs.InTime.{not-both, in_time-starts, in_time-on}
use Rattle.network_workers.proofs.tail.finish_until.Goals as goal

pub loop-init : goal.loop-init
loop-init g c = (c.requires.fit, deals-nothing g.W.Work _, c.requires.few, deals_paid-nothing g.W.Work _ _, in_time-starts (stops_among c.args.stop) _, λ _. refl)

pub loop-preserved : goal.loop-preserved
loop-preserved g c = let none = c.are_over.ensures.none c.if-are_over.false in (
  c.turn_all.ensures.fit,
  deals-on g.W.Work _ _ _ c.loop.invariant.1 c.turn_all.ensures.carries,
  c.turn_all.ensures.few,
  deals_paid-on g.W.Work _ _ _ _ _ _ c.loop.invariant.3 c.turn_all.ensures.paid,
  in_time-on (stops_among c.args.stop) _ _ _ c.loop.invariant.4 none c.turn_all.ensures.one,
  λ some. absurd (not-both _ (subst (λ x. Somewhere (stops_among c.args.stop x)) (sym (c.loop.invariant.4.stays some)) some) none),
)
