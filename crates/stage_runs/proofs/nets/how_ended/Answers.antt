use Rattle.std.proofs.Common.{subst, sym, ◌∙◌}
use Rattle.network_solo.specs.Stopping.{CameToEnd}
use Rattle.stage_runs.specs.Works.{as_works}
use Rattle.stage_runs.proofs.nets.how_ended.Goals as goal

pub returns-then-any_short-clause-short : goal.returns-then-any_short-clause-short
returns-then-any_short-clause-short g c = λ e. c.any_short.ensures.short c.if-any_short.true

pub returns-in-Last-clause-enough : goal.returns-in-Last-clause-enough
returns-in-Last-clause-enough g c = c.any_short.ensures.enough c.if-any_short.false

pub returns-then-any_fault-clause-fault : goal.returns-then-any_fault-clause-fault
returns-then-any_fault-clause-fault g c = λ e. c.any_fault.ensures.some c.if-any_fault.true

pub returns-then-any_fault-clause-enough_then : goal.returns-then-any_fault-clause-enough_then
returns-then-any_fault-clause-enough_then g c = λ e. c.any_short.ensures.enough c.if-any_short.false

pub returns-else-any_fault-clause-done : goal.returns-else-any_fault-clause-done
returns-else-any_fault-clause-done g c =
    subst (λ stop. CameToEnd (as_works g.S.Source g.K.Sink g.P.PlugFilter g.Q.PlugTally) stop c.args.nodes.now) (sym c.in-First.is ∙ c.stop.ensures) (c.any_fault.ensures.none c.if-any_fault.false)

pub returns-else-any_fault-clause-enough : goal.returns-else-any_fault-clause-enough
returns-else-any_fault-clause-enough g c = c.any_short.ensures.enough c.if-any_short.false
