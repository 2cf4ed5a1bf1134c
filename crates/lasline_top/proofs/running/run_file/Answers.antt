use Rattle.std.proofs.Common.{◌≡◌, length, Some, Ok, Err, IfErr, rules, ap, subst, sym, ◌∙◌}
use Rattle.file_devices.specs.Named.{Names}
use Rattle.run_engine.specs.ReadAhead.{ReadAtMost}
use Rattle.lasline_top.specs.Least.{IsPlanNamed}
use Rattle.lasline_top.specs.Reading.{IsReadAhead}
use Rattle.lasline_top.proofs.Least.{plan-named, plan-read, unplanned}
use Rattle.lasline_top.specs.Words.{Run_file}
use Rattle.run_report.proofs.Lines.{OnOk-more}
use Rattle.lasline_top.specs.Answer.{ran, runnable_of}
use Rattle.lasline_top.specs.Tasks.{engine_view}
use Rattle.lasline_top.proofs.Back.{always, file-remembered}
use Rattle.lasline_top.proofs.Printed.{if-unprinted}
use Rattle.lasline_top.proofs.Ran.{ran-as, done_is, run-unprinted}
use Rattle.lasline_top.proofs.Reading.{file-ahead, file-refused}
use Rattle.run_outcome.proofs.Results.{if-err}
use Rattle.plug_stages.specs.Handed.{handed_by}
use Rattle.lasline_top.proofs.running.run_file.Goals as goal

pub returns-clause-ok : goal.returns-clause-ok
returns-clause-ok g c = OnOk-more c.print_report.result _ _ (λ printed m t.
    done_is (ran (handed_by g.P.PlugFilter g.Q.PlugTally c.args.places.now) m c.args.name.now) _ _ c.in_ok-report.report.items _ _ _ c.as_slice.ensures.value
    (ran-as (handed_by g.P.PlugFilter g.Q.PlugTally c.args.places.now) c.args.name.now c.deref.result.now c.in_ok-report.report.items _ _ _ (λ n e. c.in_ok-text.ensures.ok n e ∙ ap (λ text. Ok text) (sym c.deref.ensures.value)) c.in_ok-text.ensures.settled.map_same c.in_ok-report.ensures.ok m t)
    printed) c.print_report.ensures.ok

pub returns-clause-err : goal.returns-clause-err
returns-clause-err g c = if-unprinted c.print_report.result _ _ _ c.print_report.ensures.err c.print_report.ensures.part c.print_report.ensures.rose
    (λ r is part rose. run-unprinted (handed_by g.P.PlugFilter g.Q.PlugTally c.args.places.now) c.args.name.now (engine_view (g.T.Scheduler.stop c.args.scheduler.now) c.args.engine) _ _ _ _ c.in_ok-report.report.items _ _ _ r is rose c.as_slice.ensures.value
    (ran-as (handed_by g.P.PlugFilter g.Q.PlugTally c.args.places.now) c.args.name.now c.deref.result.now c.in_ok-report.report.items _ _ _ (λ n e. c.in_ok-text.ensures.ok n e ∙ ap (λ text. Ok text) (sym c.deref.ensures.value)) c.in_ok-text.ensures.settled.map_same c.in_ok-report.ensures.ok)
    part)

pub returns-in_err-report-clause-ahead : goal.returns-in_err-report-clause-ahead
returns-in_err-report-clause-ahead g c =
    let files = g.F.Files in
    let engine = engine_view (g.T.Scheduler.stop c.args.scheduler.now) c.args.engine in
    let refusal = c.in_err-report.field-0.0 in
    let refused : c.from_residual-in_err-report.result ≡ Err refusal = search rules in
    let first = subst (λ text. ReadAtMost (length text) (files.read_to c.args.files.now) (files.read_to c.read_text.new.files)) (sym c.deref.ensures.value) c.in_ok-text.ensures.no_further in
    subst (λ r. IfErr r (λ r. g.T.Scheduler.bounded c.args.scheduler.now → (m : Names) → files.map c.args.files.now ≡ Some m → IsReadAhead (Ok (Run_file c.args.name.now engine)) m (files.read_to c.args.files.now) (files.read_to c.run_text.new.files) r)) (sym refused)
    (λ bounded m told. file-ahead c.args.name.now engine m c.deref.result.now (files.read_to c.args.files.now) (files.read_to c.read_text.new.files) (files.read_to c.run_text.new.files) refusal
    (c.in_ok-text.ensures.ok m told ∙ ap (λ text. Ok text) (sym c.deref.ensures.value)) first (c.in_err-report.ensures.ahead bounded m (c.in_ok-text.ensures.settled.map_same ∙ told)))

pub returns-clause-remembered : goal.returns-clause-remembered
returns-clause-remembered g c =
    let files = g.F.Files in
    always g.P.PlugFilter g.Q.PlugTally c.print_report.result
    (file-remembered g.P.PlugFilter g.Q.PlugTally c.args.name.now c.deref.result.now (engine_view (g.T.Scheduler.stop c.args.scheduler.now) c.args.engine) (files.map c.args.files.now) (files.map c.run_text.new.files)
    c.args.places.now c.run_text.new.places (λ m e. c.in_ok-text.ensures.ok m e ∙ ap (λ text. Ok text) (sym c.deref.ensures.value))
    (λ m e. c.in_ok-report.ensures.remembered m (c.in_ok-text.ensures.settled.map_same ∙ e)))

pub returns-clause-ahead : goal.returns-clause-ahead
returns-clause-ahead g c = if-err c.print_report.result c.print_report.ensures.err (λ r is bounded m told.
    file-refused c.args.name.now (engine_view (g.T.Scheduler.stop c.args.scheduler.now) c.args.engine) m _ _ r (λ i f e. cc))

pub returns-in_err-text-clause-least : goal.returns-in_err-text-clause-least
returns-in_err-text-clause-least g c =
    let files = g.F.Files in
    let handed = handed_by g.P.PlugFilter g.Q.PlugTally c.args.places.now in
    let refusal = c.in_err-text.field-0.0 in
    let refused : c.from_residual.result ≡ Err refusal = search rules in
    subst (λ r. IfErr r (λ r. (m : Names) → files.map c.args.files.now ≡ Some m → IsPlanNamed (runnable_of handed m c.args.name.now) (files.counts c.args.files.now) (files.counts c.read_text.new.files) r)) (sym refused)
    (λ m told. unplanned (runnable_of handed m c.args.name.now) (files.counts c.args.files.now) (files.counts c.read_text.new.files) refusal c.in_err-text.ensures.of_plan)

pub returns-in_err-report-clause-least : goal.returns-in_err-report-clause-least
returns-in_err-report-clause-least g c =
    let files = g.F.Files in
    let handed = handed_by g.P.PlugFilter g.Q.PlugTally c.args.places.now in
    let refusal = c.in_err-report.field-0.0 in
    let refused : c.from_residual-in_err-report.result ≡ Err refusal = search rules in
    subst (λ r. IfErr r (λ r. (m : Names) → files.map c.args.files.now ≡ Some m → IsPlanNamed (runnable_of handed m c.args.name.now) (files.counts c.args.files.now) (files.counts c.run_text.new.files) r)) (sym refused)
    (λ m told. plan-named (runnable_of handed m c.args.name.now) handed c.deref.result.now (files.counts c.args.files.now) (files.counts c.read_text.new.files) (files.counts c.run_text.new.files) refusal
    (plan-read handed m c.args.name.now c.deref.result.now (c.in_ok-text.ensures.ok m told ∙ ap (λ text. Ok text) (sym c.deref.ensures.value))) c.in_ok-text.ensures.gave c.in_err-report.ensures.least)

pub returns-clause-least : goal.returns-clause-least
returns-clause-least g c = if-err c.print_report.result c.print_report.ensures.err (λ r is m told.
    subst (IsPlanNamed (runnable_of (handed_by g.P.PlugFilter g.Q.PlugTally c.args.places.now) m c.args.name.now) _ _) (sym is) tt)
