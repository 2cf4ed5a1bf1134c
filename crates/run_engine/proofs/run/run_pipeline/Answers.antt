use Rattle.std.proofs.Common.{◌+◌, IsOkAnd, option_map, refl, ap, sym, subst, ◌∙◌, arith}
use Rattle.answer_model.specs.Runs.{run_of}
use Rattle.run_ending.proofs.Taken.{on-ok-more}
use Rattle.run_outcome.specs.Cause.{IsLeft, IsRun}
use Rattle.run_outcome.specs.Least.{IsNamedBy}
use Rattle.run_outcome.proofs.Results.{if-ok, if-err}
use Rattle.run_outcome.proofs.Causes.{rose-within}
use Rattle.run_engine.specs.Stopping.{ends_at}
use Rattle.run_engine.proofs.Stopping.{cause-by-weaker}
use Rattle.std.specs.Prelude.{sum_by}
use Rattle.plug_stages.specs.Handed.{handed_by}
use Rattle.file_devices.specs.Told.{IsAsTold}
use Rattle.run_opening.specs.Ready.{AreReady}
use Rattle.run_report.specs.declared.refusal.Fault.TheVariants.{Point}
use Rattle.run_report.specs.declared.refusal.Refusal.TheVariants.{Data}
use Rattle.stage_kinds.specs.Leads.{reached_of}
use Rattle.run_engine.specs.Jobs.{HasRun, HaveReadBy}
use Rattle.run_engine.proofs.Ahead.{read-no-more}
use Rattle.run_engine.proofs.run.run_pipeline.Goals as goal

pub close-requires-clause-ran : goal.close-requires-clause-ran
close-requires-clause-ran g c =
    let map = g.F.Files.map c.args.files.now in
    let handed = handed_by g.P.PlugFilter g.Q.PlugTally c.args.places.now in
    (ends_at c.args.engine (g.T.Scheduler.stop c.args.scheduler.now), handed, map, c.run-enough.ensures.ran c.args.engine handed map c.in_ok-job.ensures.ready)

pub returns-clause-ok : goal.returns-clause-ok
returns-clause-ok g c =
    let files = g.F.Files in
    let map = files.map c.args.files.now in
    let handed = handed_by g.P.PlugFilter g.Q.PlugTally c.args.places.now in
    let stop = ends_at c.args.engine (g.T.Scheduler.stop c.args.scheduler.now) in
    let stages = c.args.stages.now in
    let ran = c.run-enough.ensures.ran c.args.engine handed map c.in_ok-job.ensures.ready in
    if-ok c.close.result c.close.ensures.ok (λ report run m told.
    subst (λ old. IsOkAnd (run_of handed m stages) (IsRun old (files.map c.close.new.files) report.items)) c.in_ok-job.ensures.lends.map
    (run stop handed m (subst (λ first. HasRun g.F.In.Source g.F.Out.Sink g.P.PlugFilter g.Q.PlugTally stop handed first stages c.run-enough.new.self) told ran)))

pub returns-clause-err : goal.returns-clause-err
returns-clause-err g c =
    let files = g.F.Files in
    let map = files.map c.args.files.now in
    let handed = handed_by g.P.PlugFilter g.Q.PlugTally c.args.places.now in
    let stop = ends_at c.args.engine (g.T.Scheduler.stop c.args.scheduler.now) in
    let stages = c.args.stages.now in
    let ran = c.run-enough.ensures.ran c.args.engine handed map c.in_ok-job.ensures.ready in
    if-err c.close.result c.close.ensures.err (λ refusal cause. cause-by-weaker stop handed map stages refusal
    (rose-within (files.faults c.args.files.now) (files.faults c.prepare.new.files) (files.faults c.close.new.files) (files.faults c.close.new.files) c.in_ok-job.ensures.lends.later (omega arith))
    (cause stop handed map ran))

pub returns-clause-left : goal.returns-clause-left
returns-clause-left g c =
    let files = g.F.Files in
    let map = files.map c.args.files.now in
    let handed = handed_by g.P.PlugFilter g.Q.PlugTally c.args.places.now in
    let stop = ends_at c.args.engine (g.T.Scheduler.stop c.args.scheduler.now) in
    let stages = c.args.stages.now in
    let ran = c.run-enough.ensures.ran c.args.engine handed map c.in_ok-job.ensures.ready in
    if-err c.close.result c.close.ensures.left (λ refusal left m told.
    subst (λ old. IsLeft refusal old (files.map c.close.new.files) (run_of handed m stages)) c.in_ok-job.ensures.lends.map
    (left stop handed m (subst (λ first. HasRun g.F.In.Source g.F.Out.Sink g.P.PlugFilter g.Q.PlugTally stop handed first stages c.run-enough.new.self) told ran)))

pub returns-clause-remembered : goal.returns-clause-remembered
returns-clause-remembered g c =
    let map = g.F.Files.map c.args.files.now in
    let handed = handed_by g.P.PlugFilter g.Q.PlugTally c.args.places.now in
    let stop = ends_at c.args.engine (g.T.Scheduler.stop c.args.scheduler.now) in
    let ran = c.run-enough.ensures.ran c.args.engine handed map c.in_ok-job.ensures.ready in
    on-ok-more c.close.result c.close.ensures.remembered (λ remembered m told. remembered stop handed m c.args.places.now
    (subst (λ first. HasRun g.F.In.Source g.F.Out.Sink g.P.PlugFilter g.Q.PlugTally stop handed first c.args.stages.now c.run-enough.new.self) told ran) refl c.requires.named
    (c.run-enough.ensures.out c.args.places.now c.prepare.new.places c.in_ok-job.ensures.out))

pub returns-clause-lent : goal.returns-clause-lent
returns-clause-lent g c = c.close.ensures.lent (g.F.Files.lent c.args.files.now)
    (let a = c.in_ok-job.ensures.lends.lent in let b = c.run-enough.ensures.held in omega (arith, a, b))

pub returns-clause-ahead : goal.returns-clause-ahead
returns-clause-ahead g c = λ bounded shape m i f is first told refused.
    let files = g.F.Files in
    let s = g.F.In.Source in
    let k = g.F.Out.Sink in
    let fs = g.P.PlugFilter in
    let ts = g.Q.PlugTally in
    let stages = c.args.stages.now in
    let handed = handed_by g.P.PlugFilter g.Q.PlugTally c.args.places.now in
    let stop = ends_at c.args.engine (g.T.Scheduler.stop c.args.scheduler.now) in
    let ready = c.in_ok-job.ensures.ready in
    let ran = c.run-enough.ensures.ran c.args.engine handed (files.map c.args.files.now) ready in
    let came = c.close.ensures.data i (Point f) refused in
    let works = subst (λ map. AreReady s k fs ts handed map stages c.in_ok-job.job.works.items) told ready.works in
    let read = subst (λ o. IsAsTold (files.read_to c.close.new.files) (option_map (λ n. n + sum_by (reached_of s.reached) c.run-enough.new.self.works.items) o)) c.in_ok-job.ensures.lends.read_to
    (c.close.ensures.read (Data i (Point f)) came) in
    let ahead = subst (λ e. HaveReadBy s k fs ts e stages c.in_ok-job.job.works.items c.run-enough.new.self.works.items c.run-enough.new.self.step) is (c.run-enough.ensures.ahead bounded first c.args.engine ready.waits) in
    read-no-more g.row.T-Edges.Denot s k fs ts handed m stages shape c.in_ok-job.job.works.items c.run-enough.new.self.works.items works stop ran.before c.run-enough.new.self.step i f ran.came ahead came
    (files.read_to c.args.files.now) (files.read_to c.close.new.files) read

pub returns-clause-untold : goal.returns-clause-untold
returns-clause-untold g c = λ none. c.close.ensures.untold (c.in_ok-job.ensures.lends.map ∙ none)

pub returns-clause-back : goal.returns-clause-back
returns-clause-back g c = c.close.ensures.back c.args.places.now (c.run-enough.ensures.out c.args.places.now c.prepare.new.places c.in_ok-job.ensures.out)

pub returns-clause-least : goal.returns-clause-least
returns-clause-least g c = if-err c.close.result c.close.ensures.least (λ refusal named.
    subst (λ o. IsNamedBy c.args.stages.now o (g.F.Files.counts c.close.new.files) refusal) c.in_ok-job.ensures.lends.counts named)

pub returns-in_err-job-clause-lent : goal.returns-in_err-job-clause-lent
returns-in_err-job-clause-lent g c = c.in_err-job.ensures.settles.lent (g.F.Files.lent c.args.files.now) (omega arith)
