use Rattle.std.proofs.Common.{◌≡◌, IfOk, subst}
use Rattle.network_core.specs.declared.stop.Stop.TheVariants.{First, Last}
use Rattle.run_outcome.proofs.Results.{if-ok, if-on-err}
use Rattle.stage_runs.specs.Ahead.{AreReadAhead}
use Rattle.run_engine.specs.declared.engine.Engine.TheVariants.{Queues}
use Rattle.run_engine.specs.Jobs.{IsWaiting, TakesTurns}
use Rattle.run_engine.specs.Stopping.{HaveEndedBy}
use Rattle.run_engine.proofs.Stopping.{ended-by, turns-stop, whole-stop}
use Rattle.run_engine.proofs.Waiting.{not-done, not-short, on-any-err, turns-room}
use Rattle.run_engine.proofs.job.evaluate.Goals as goal

pub turn_works-requires-clause-room : goal.turn_works-requires-clause-room
turn_works-requires-clause-room g c =
    let waits = c.requires.waits in
    turns-room g.S.Source g.K.Sink g.P.PlugFilter g.Q.PlugTally g.T.Scheduler.fits c.args.stages.now waits.0 c.in-Turns.room (subst (IsWaiting g.S.Source g.K.Sink g.P.PlugFilter g.Q.PlugTally g.T.Scheduler.fits waits.0 c.args.stages.now) c.in-Turns.is waits.1)

pub unreachable-requires : goal.unreachable-requires
unreachable-requires g c =
    let waits = c.requires.waits in
    not-done g.S.Source g.K.Sink g.P.PlugFilter g.Q.PlugTally g.T.Scheduler.fits c.args.stages.now waits.0 c.in-Done.field-0 (subst (IsWaiting g.S.Source g.K.Sink g.P.PlugFilter g.Q.PlugTally g.T.Scheduler.fits waits.0 c.args.stages.now) c.in-Done.is waits.1)

pub unreachable-requires-in-Short : goal.unreachable-requires-in-Short
unreachable-requires-in-Short g c =
    let waits = c.requires.waits in
    not-short g.S.Source g.K.Sink g.P.PlugFilter g.Q.PlugTally g.T.Scheduler.fits c.args.stages.now waits.0 (subst (IsWaiting g.S.Source g.K.Sink g.P.PlugFilter g.Q.PlugTally g.T.Scheduler.fits waits.0 c.args.stages.now) c.in-Short.is waits.1)

pub returns-in-Turns-clause-gathers : goal.returns-in-Turns-clause-gathers
returns-in-Turns-clause-gathers g c = if-on-err c.turn_works.result.outcome c.turn_works.ensures.gathers (λ gathers turns. gathers)

pub returns-in-Whole-clause-gathers : goal.returns-in-Whole-clause-gathers
returns-in-Whole-clause-gathers g c = on-any-err c.whole_works.result.outcome (λ turns. absurd (subst (TakesTurns {S = g.row.S.Denot} {K = g.row.K.Denot} {P = g.row.P.Denot} {Q = g.row.Q.Denot}) c.in-Whole.is turns))

pub returns-in-Turns-clause-ended : goal.returns-in-Turns-clause-ended
returns-in-Turns-clause-ended g c = λ chosen waits.
    let stop = g.T.Scheduler.stop c.args.scheduler.now in
    let waits-so = subst (IsWaiting g.S.Source g.K.Sink g.P.PlugFilter g.Q.PlugTally g.T.Scheduler.fits chosen c.args.stages.now) c.in-Turns.is waits in
    subst (λ end. IfOk c.turn_works.result.outcome (λ ended. HaveEndedBy g.S.Source g.K.Sink g.P.PlugFilter g.Q.PlugTally end c.args.stages.now c.args.works.items c.turn_works.result.works.items ended.faults.items ended.report.items))
    (turns-stop g.S.Source g.K.Sink g.P.PlugFilter g.Q.PlugTally g.T.Scheduler.fits c.args.stages.now stop chosen c.in-Turns.room waits-so) c.turn_works.ensures.ended

pub returns-in-Whole-clause-ended : goal.returns-in-Whole-clause-ended
returns-in-Whole-clause-ended g c = λ chosen waits.
    let stop = g.T.Scheduler.stop c.args.scheduler.now in
    let waits-so = subst (IsWaiting g.S.Source g.K.Sink g.P.PlugFilter g.Q.PlugTally g.T.Scheduler.fits chosen c.args.stages.now) c.in-Whole.is waits in
    let works = c.whole_works.result.works.items in
    subst (λ end. IfOk c.whole_works.result.outcome (λ ended. HaveEndedBy g.S.Source g.K.Sink g.P.PlugFilter g.Q.PlugTally end c.args.stages.now c.args.works.items works ended.faults.items ended.report.items))
    (whole-stop g.S.Source g.K.Sink g.P.PlugFilter g.Q.PlugTally g.T.Scheduler.fits c.args.stages.now stop chosen waits-so)
    (if-ok c.whole_works.result.outcome c.whole_works.ensures.ended (λ ended have. ended-by g.S.Source g.K.Sink g.P.PlugFilter g.Q.PlugTally Last c.args.stages.now c.args.works.items works ended.faults.items ended.report.items have))

pub returns-in-Turns-clause-ahead : goal.returns-in-Turns-clause-ahead
returns-in-Turns-clause-ahead g c = λ shape waits.
    let waits-so = subst (IsWaiting g.S.Source g.K.Sink g.P.PlugFilter g.Q.PlugTally g.T.Scheduler.fits (Queues shape) c.args.stages.now) c.in-Turns.is waits in
    subst (λ x. IfOk c.turn_works.result.outcome (λ ended. g.T.Scheduler.bounded c.args.scheduler.now → g.T.Scheduler.stop c.args.scheduler.now ≡ First
    → AreReadAhead g.S.Source g.P.PlugFilter g.Q.PlugTally c.args.stages.now x.queue x.chunk c.args.works.items c.turn_works.result.works.items ended.faults.items)) waits-so.cut c.turn_works.ensures.ahead

pub returns-in-Whole-clause-ahead : goal.returns-in-Whole-clause-ahead
returns-in-Whole-clause-ahead g c = λ shape waits. absurd (subst (IsWaiting g.S.Source g.K.Sink g.P.PlugFilter g.Q.PlugTally g.T.Scheduler.fits (Queues shape) c.args.stages.now) c.in-Whole.is waits)
