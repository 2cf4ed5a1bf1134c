use Rattle.std.proofs.Common.{rules, ◌≡◌, Err, OnErr, length, ap, sym, subst, ◌∙◌, IfOk}
use Rattle.stage_forms.specs.Later.{AreLater}
use Rattle.stage_forms.specs.Starts.{AreAtStart}
use Rattle.stage_kinds.specs.Held.{faults_of}
use Rattle.stage_runs.specs.Short.{SomeGathers}
use Rattle.held_devices.specs.Holding.{all_held}
use Rattle.run_outcome.proofs.Results.{ok-of}
use Rattle.run_engine.specs.Stopping.{HaveEndedBy, ends_at}
use Rattle.network_core.specs.declared.stop.Stop.TheVariants.{First}
use Rattle.stage_runs.specs.Ahead.{AreReadAhead}
use Rattle.run_engine.specs.declared.engine.Engine.TheVariants.{Queues}
use Rattle.run_engine.specs.declared.shape.Shape.{Shape}
use Rattle.run_engine.specs.Jobs.{HaveCome, HaveReadBy, IsShort, IsWaiting, TakesTurns}
use Rattle.run_engine.proofs.Ahead.{read-done, read-short}
use Rattle.run_engine.proofs.Answers.{same-held}
use Rattle.run_engine.proofs.Inputs.{few-stages}
use Rattle.run_engine.proofs.Given.{later-out}
use Rattle.run_engine.proofs.Waiting.{on-err}
use Rattle.run_engine.proofs.job.Job.run.Goals as goal

pub evaluate-works-requires-clause-few : goal.evaluate-works-requires-clause-few
evaluate-works-requires-clause-few g c = few-stages c.args.stages.now c.requires.tree

pub evaluate-works-requires-clause-starts : goal.evaluate-works-requires-clause-starts
evaluate-works-requires-clause-starts g c =
    subst (λ works. AreAtStart g.K.Sink.bytes c.args.stages.now works.items) (sym c.replace-works.ensures.value) c.requires.ready.3.works.starts

pub evaluate-works-requires-clause-count : goal.evaluate-works-requires-clause-count
evaluate-works-requires-clause-count g c = ap (λ works. length works.items) c.replace-works.ensures.value ∙ c.requires.ready.3.works.count

pub evaluate-works-requires-clause-waits : goal.evaluate-works-requires-clause-waits
evaluate-works-requires-clause-waits g c =
    let engine = c.requires.ready.0 in
    (engine, subst (IsWaiting g.S.Source g.K.Sink g.P.PlugFilter g.Q.PlugTally g.T.Scheduler.fits engine c.args.stages.now) (sym c.replace-step.ensures.value) c.requires.ready.3.waits)

pub returns-in_err-ended-clause-ran : goal.returns-in_err-ended-clause-ran
returns-in_err-ended-clause-ran g c = λ engine handed map ready.
    let s = g.S.Source in
    let k = g.K.Sink in
    let fs = g.P.PlugFilter in
    let ts = g.Q.PlugTally in
    let stages = c.args.stages.now in
    let stop = ends_at engine (g.T.Scheduler.stop c.args.scheduler.now) in
    let faults = faults_of s.faults k.faults in
    let old = c.args.self.now.works.items in
    let later = subst (λ works. AreLater fs ts faults works.items c.evaluate-works.result.works.items) c.replace-works.ensures.value c.evaluate-works.ensures.later in
    record {
      before = old;
      ready = ready.works;
      later = subst (λ works. AreLater fs ts faults old works.items) (sym c.replace-blank.ensures.after) later;
      came = subst (HaveCome s k fs ts stop stages old c.replace-blank.new.dest.items) (sym c.replace-step.ensures.after) tt;
    }

pub returns-in_err-ended-clause-held : goal.returns-in_err-ended-clause-held
returns-in_err-ended-clause-held g c =
    let faults = faults_of g.S.Source.faults g.K.Sink.faults in
    ap (λ works. all_held works.items) c.replace-blank.ensures.after
    ∙ same-held faults c.replace-works.result.items c.evaluate-works.result.works.items c.evaluate-works.ensures.later
    ∙ ap (λ works. all_held works.items) c.replace-works.ensures.value

pub returns-in_err-ended-clause-short : goal.returns-in_err-ended-clause-short
returns-in_err-ended-clause-short g c =
    let short : IsShort c.replace-step.new.dest = subst (IsShort {S = g.row.S.Denot} {K = g.row.K.Denot} {P = g.row.P.Denot} {Q = g.row.Q.Denot} {E = g.row.E.Denot}) (sym c.replace-step.ensures.after) tt in
    let refused : c.from_residual.result ≡ Err c.in_err-ended.field-0.0 = search rules in
    subst (λ r. OnErr r (IsShort c.replace-step.new.dest)) (sym refused) short

pub returns-in_err-ended-clause-gathers : goal.returns-in_err-ended-clause-gathers
returns-in_err-ended-clause-gathers g c =
    let refused : c.from_residual.result ≡ Err c.in_err-ended.field-0.0 = search rules in
    let came : c.evaluate-works.result.outcome ≡ Err c.in_err-ended.field-0.0 = search rules in
    let gathers = on-err c.evaluate-works.result.outcome c.in_err-ended.field-0.0 came c.evaluate-works.ensures.gathers in
    subst (λ r. OnErr r (TakesTurns c.args.self.now.step → SomeGathers c.args.stages.now)) (sym refused)
    (λ turns. gathers (subst (TakesTurns {S = g.row.S.Denot} {K = g.row.K.Denot} {P = g.row.P.Denot} {Q = g.row.Q.Denot} {E = g.row.E.Denot}) (sym c.replace-step.ensures.value) turns))

pub returns-clause-ran : goal.returns-clause-ran
returns-clause-ran g c = λ engine handed map ready.
    let s = g.S.Source in
    let k = g.K.Sink in
    let fs = g.P.PlugFilter in
    let ts = g.Q.PlugTally in
    let stages = c.args.stages.now in
    let stop = ends_at engine (g.T.Scheduler.stop c.args.scheduler.now) in
    let faults = faults_of s.faults k.faults in
    let old = c.args.self.now.works.items in
    let done = c.in_ok-ended.ended in
    let new = c.evaluate-works.result.works.items in
    let later = subst (λ works. AreLater fs ts faults works.items new) c.replace-works.ensures.value c.evaluate-works.ensures.later in
    let waits = subst (IsWaiting s k fs ts g.T.Scheduler.fits engine stages) (sym c.replace-step.ensures.value) ready.waits in
    let ended = subst (λ works. IfOk c.evaluate-works.result.outcome (λ e. HaveEndedBy s k fs ts stop stages works.items new e.faults.items e.report.items)) c.replace-works.ensures.value (c.evaluate-works.ensures.ended engine waits) in
    let came : HaveEndedBy s k fs ts stop stages old new done.faults.items done.report.items = ok-of (λ e. HaveEndedBy s k fs ts stop stages old new e.faults.items e.report.items) c.evaluate-works.result.outcome done (search rules) ended in
    record {
      before = old;
      ready = ready.works;
      later = subst (λ works. AreLater fs ts faults old works.items) (sym c.replace-blank.ensures.after) later;
      came = subst (λ works. HaveCome s k fs ts stop stages old works.items c.replace.new.dest) (sym c.replace-blank.ensures.after)
          (subst (HaveCome s k fs ts stop stages old new) (sym c.replace.ensures.after) came);
    }

pub returns-clause-held : goal.returns-clause-held
returns-clause-held g c =
    let faults = faults_of g.S.Source.faults g.K.Sink.faults in
    ap (λ works. all_held works.items) c.replace-blank.ensures.after
    ∙ same-held faults c.replace-works.result.items c.evaluate-works.result.works.items c.evaluate-works.ensures.later
    ∙ ap (λ works. all_held works.items) c.replace-works.ensures.value

pub returns-in_err-ended-clause-ahead : goal.returns-in_err-ended-clause-ahead
returns-in_err-ended-clause-ahead g c = λ bounded first engine waits. subst (HaveReadBy g.S.Source g.K.Sink g.P.PlugFilter g.Q.PlugTally engine c.args.stages.now c.args.self.now.works.items c.replace-blank.new.dest.items) (sym c.replace-step.ensures.after)
    (read-short g.row.E.Denot g.S.Source g.K.Sink g.P.PlugFilter g.Q.PlugTally c.args.stages.now c.args.self.now.works.items c.replace-blank.new.dest.items engine)

pub returns-clause-ahead : goal.returns-clause-ahead
returns-clause-ahead g c = λ bounded first engine waits.
    let s = g.S.Source in
    let k = g.K.Sink in
    let fs = g.P.PlugFilter in
    let ts = g.Q.PlugTally in
    let stages = c.args.stages.now in
    let old = c.args.self.now.works.items in
    let done = c.in_ok-ended.ended in
    let new = c.evaluate-works.result.works.items in
    let waits-so = subst (IsWaiting s k fs ts g.T.Scheduler.fits engine stages) (sym c.replace-step.ensures.value) waits in
    let ahead : (shape : Shape) → engine ≡ Queues shape → AreReadAhead s fs ts stages shape.queue shape.chunk old new done.faults.items = λ shape is.
    ok-of (λ e. g.T.Scheduler.bounded c.args.scheduler.now → g.T.Scheduler.stop c.args.scheduler.now ≡ First → AreReadAhead s fs ts stages shape.queue shape.chunk old new e.faults.items) c.evaluate-works.result.outcome done (search rules)
    (subst (λ works. IfOk c.evaluate-works.result.outcome (λ e. g.T.Scheduler.bounded c.args.scheduler.now → g.T.Scheduler.stop c.args.scheduler.now ≡ First → AreReadAhead s fs ts stages shape.queue shape.chunk works.items new e.faults.items)) c.replace-works.ensures.value
    (c.evaluate-works.ensures.ahead shape (subst (λ x. IsWaiting s k fs ts g.T.Scheduler.fits x stages c.replace-step.result) is waits-so))) bounded first in
    subst (λ works. HaveReadBy s k fs ts engine stages old works.items c.replace.new.dest) (sym c.replace-blank.ensures.after)
    (subst (HaveReadBy s k fs ts engine stages old new) (sym c.replace.ensures.after) (read-done g.row.E.Denot s k fs ts stages old new engine done ahead))

pub returns-in_err-ended-clause-out : goal.returns-in_err-ended-clause-out
returns-in_err-ended-clause-out g c = λ before now out.
    let faults = faults_of g.S.Source.faults g.K.Sink.faults in
    let fs = g.P.PlugFilter in
    let ts = g.Q.PlugTally in
    let later = subst (λ works. AreLater fs ts faults works.items c.evaluate-works.result.works.items) c.replace-works.ensures.value c.evaluate-works.ensures.later in
    later-out faults c.args.self.now.works.items c.replace-blank.new.dest.items (subst (λ works. AreLater fs ts faults c.args.self.now.works.items works.items) (sym c.replace-blank.ensures.after) later) out

pub returns-clause-out : goal.returns-clause-out
returns-clause-out g c = λ before now out.
    let faults = faults_of g.S.Source.faults g.K.Sink.faults in
    let fs = g.P.PlugFilter in
    let ts = g.Q.PlugTally in
    let later = subst (λ works. AreLater fs ts faults works.items c.evaluate-works.result.works.items) c.replace-works.ensures.value c.evaluate-works.ensures.later in
    later-out faults c.args.self.now.works.items c.replace-blank.new.dest.items (subst (λ works. AreLater fs ts faults c.args.self.now.works.items works.items) (sym c.replace-blank.ensures.after) later) out
