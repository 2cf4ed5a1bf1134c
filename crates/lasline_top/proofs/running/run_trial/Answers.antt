use Rattle.std.proofs.Common.{rules, arith, refl, ◌≡◌, Err, IfErr, ap, subst, sym, ◌∙◌}
use Rattle.run_outcome.proofs.Causes.{rose-within}
use Rattle.file_devices.specs.Content.{Appends, AppendsPart}
use Rattle.cloud_gen.specs.GeneratedFile.{generated_file, IsPut}
use Rattle.run_report.proofs.Lines.{OnOk-more}
use Rattle.lasline_top.specs.Tasks.{engine_view}
use Rattle.lasline_top.specs.Answer.{runnable_in, trial_text}
use Rattle.lasline_top.specs.Least.{IsPlanNamed}
use Rattle.lasline_top.proofs.Back.{always, trial-remembered}
use Rattle.lasline_top.proofs.Least.{plan-named, unmade-named}
use Rattle.lasline_top.proofs.Printed.{if-unprinted}
use Rattle.lasline_top.proofs.Tried.{trial-stopped, trial-ran, trial-done, trial-unprinted, line-part, report-part}
use Rattle.run_outcome.proofs.Results.{if-err}
use Rattle.plug_stages.specs.Handed.{handed_by}
use Rattle.lasline_top.proofs.running.run_trial.Goals as goal

pub returns-in_err-report-clause-err : goal.returns-in_err-report-clause-err
returns-in_err-report-clause-err g c =
    let files = g.F.Files in
    let put-in = subst (λ name. IsPut (files.map c.args.files.now) name (generated_file c.args.count.points) (files.map c.make.new.files)) c.trial_name.ensures c.in_ok-make.ensures.ok in
    let refused : c.from_residual-in_err-report.result ≡ Err c.in_err-report.field-0.0 = search rules in
    rw refused (trial-stopped (handed_by g.P.PlugFilter g.Q.PlugTally c.args.places.now) c.args.count.points (engine_view (g.T.Scheduler.stop c.args.scheduler.now) c.args.engine) _ _ _ c.as_bytes.result.now (files.map c.args.files.now) (files.map c.make.new.files) (files.map c.run_text.new.files) _ _ c.in_err-report.field-0.0 refl put-in
    (c.as_bytes.ensures.value ∙ c.trial_text.ensures)
    (rose-within (files.faults c.args.files.now) (files.faults c.make.new.files) (files.faults c.run_text.new.files) (files.faults c.run_text.new.files) c.in_ok-make.ensures.later (omega arith))
    c.in_err-report.ensures.untold c.in_err-report.ensures.err)

pub returns-in_err-print_text-clause-err : goal.returns-in_err-print_text-clause-err
returns-in_err-print_text-clause-err g c =
    let files = g.F.Files in
    let put-in = subst (λ name. IsPut (files.map c.args.files.now) name (generated_file c.args.count.points) (files.map c.make.new.files)) c.trial_name.ensures c.in_ok-make.ensures.ok in
    let refused : c.from_residual-in_err-print_text.result ≡ Err c.in_err-print_text.field-0.0 = search rules in
    rw refused (trial-unprinted (handed_by g.P.PlugFilter g.Q.PlugTally c.args.places.now) c.args.count.points (engine_view (g.T.Scheduler.stop c.args.scheduler.now) c.args.engine) _ _ (files.map c.args.files.now) (files.map c.run_text.new.files) c.in_ok-report.report.items _ _ c.in_err-print_text.field-0.0 c.in_err-print_text.ensures.err c.in_err-print_text.ensures.rose
    (trial-ran (handed_by g.P.PlugFilter g.Q.PlugTally c.args.places.now) c.args.count.points c.as_bytes.result.now c.in_ok-report.report.items (files.map c.args.files.now) (files.map c.make.new.files) (files.map c.run_text.new.files) put-in (c.as_bytes.ensures.value ∙ c.trial_text.ensures) c.in_ok-report.ensures.untold c.in_ok-report.ensures.ok)
    (line-part c.args.count.points c.in_ok-report.report.items _ _
    (subst (λ text. AppendsPart (g.K.Sink.bytes c.args.out.now) text (g.K.Sink.bytes c.print_text.new.out)) (c.as_str.ensures.value ∙ c.in-Ok.ensures) c.in_err-print_text.ensures.part)))

pub returns-clause-remembered : goal.returns-clause-remembered
returns-clause-remembered g c =
    let files = g.F.Files in
    let put-in = subst (λ name. IsPut (files.map c.args.files.now) name (generated_file c.args.count.points) (files.map c.make.new.files)) c.trial_name.ensures c.in_ok-make.ensures.ok in
    always g.P.PlugFilter g.Q.PlugTally c.print_report.result
    (trial-remembered g.P.PlugFilter g.Q.PlugTally c.args.count.points c.as_bytes.result.now (engine_view (g.T.Scheduler.stop c.args.scheduler.now) c.args.engine) (files.map c.args.files.now) (files.map c.make.new.files)
    (files.map c.run_text.new.files) c.args.places.now c.run_text.new.places (c.as_bytes.ensures.value ∙ c.trial_text.ensures) put-in c.in_ok-report.ensures.untold c.in_ok-report.ensures.remembered)

pub returns-clause-ok : goal.returns-clause-ok
returns-clause-ok g c =
    let files = g.F.Files in
    let put-in = subst (λ name. IsPut (files.map c.args.files.now) name (generated_file c.args.count.points) (files.map c.make.new.files)) c.trial_name.ensures c.in_ok-make.ensures.ok in
    let line = subst (λ text. Appends (g.K.Sink.bytes c.args.out.now) text (g.K.Sink.bytes c.print_text.new.out)) (c.as_str.ensures.value ∙ c.in-Ok.ensures) c.in_ok-print_text.ensures.ok in
    OnOk-more c.print_report.result _ _ (λ report.
    trial-done (handed_by g.P.PlugFilter g.Q.PlugTally c.args.places.now) c.args.count.points (engine_view (g.T.Scheduler.stop c.args.scheduler.now) c.args.engine) (files.map c.args.files.now) (files.map c.run_text.new.files) c.in_ok-report.report.items c.as_slice.result.now _ _ _ c.as_slice.ensures.value
    (trial-ran (handed_by g.P.PlugFilter g.Q.PlugTally c.args.places.now) c.args.count.points c.as_bytes.result.now c.in_ok-report.report.items (files.map c.args.files.now) (files.map c.make.new.files) (files.map c.run_text.new.files) put-in (c.as_bytes.ensures.value ∙ c.trial_text.ensures) c.in_ok-report.ensures.untold c.in_ok-report.ensures.ok)
    line report) c.print_report.ensures.ok

pub returns-clause-err : goal.returns-clause-err
returns-clause-err g c =
    let files = g.F.Files in
    let put-in = subst (λ name. IsPut (files.map c.args.files.now) name (generated_file c.args.count.points) (files.map c.make.new.files)) c.trial_name.ensures c.in_ok-make.ensures.ok in
    let line = subst (λ text. Appends (g.K.Sink.bytes c.args.out.now) text (g.K.Sink.bytes c.print_text.new.out)) (c.as_str.ensures.value ∙ c.in-Ok.ensures) c.in_ok-print_text.ensures.ok in
    let low = c.in_ok-print_text.ensures.later in
    if-unprinted c.print_report.result _ _ _ c.print_report.ensures.err c.print_report.ensures.part c.print_report.ensures.rose (λ r is part rose.
    trial-unprinted (handed_by g.P.PlugFilter g.Q.PlugTally c.args.places.now) c.args.count.points (engine_view (g.T.Scheduler.stop c.args.scheduler.now) c.args.engine) _ _ (files.map c.args.files.now) (files.map c.run_text.new.files) c.in_ok-report.report.items _ _ r is
    (rose-within (g.K.Sink.faults c.args.out.now) (g.K.Sink.faults c.print_text.new.out) (g.K.Sink.faults c.print_report.new.out) (g.K.Sink.faults c.print_report.new.out) low (omega arith) rose)
    (trial-ran (handed_by g.P.PlugFilter g.Q.PlugTally c.args.places.now) c.args.count.points c.as_bytes.result.now c.in_ok-report.report.items (files.map c.args.files.now) (files.map c.make.new.files) (files.map c.run_text.new.files) put-in (c.as_bytes.ensures.value ∙ c.trial_text.ensures) c.in_ok-report.ensures.untold c.in_ok-report.ensures.ok)
    (report-part c.args.count.points c.in_ok-report.report.items c.as_slice.result.now _ _ _ c.as_slice.ensures.value line part))

pub returns-in_err-make-clause-least : goal.returns-in_err-make-clause-least
returns-in_err-make-clause-least g c =
    let files = g.F.Files in
    let plan = runnable_in (handed_by g.P.PlugFilter g.Q.PlugTally c.args.places.now) trial_text in
    let refused : c.from_residual.result ≡ Err c.in_err-make.field-0.0 = search rules in
    subst (λ r. IfErr r (IsPlanNamed plan (files.counts c.args.files.now) (files.counts c.make.new.files))) (sym refused) (unmade-named _ _ _ _ _ plan _ _ c.in_err-make.field-0.0 c.in_err-make.ensures.err)

pub returns-in_err-report-clause-least : goal.returns-in_err-report-clause-least
returns-in_err-report-clause-least g c =
    let files = g.F.Files in
    let handed = handed_by g.P.PlugFilter g.Q.PlugTally c.args.places.now in
    let plan = runnable_in handed trial_text in
    let same = ap (runnable_in handed) (sym (c.as_bytes.ensures.value ∙ c.trial_text.ensures)) in
    let refused : c.from_residual-in_err-report.result ≡ Err c.in_err-report.field-0.0 = search rules in
    subst (λ r. IfErr r (IsPlanNamed plan (files.counts c.args.files.now) (files.counts c.run_text.new.files))) (sym refused)
    (plan-named plan handed c.as_bytes.result.now (files.counts c.args.files.now) (files.counts c.make.new.files) (files.counts c.run_text.new.files) c.in_err-report.field-0.0 same c.in_ok-make.ensures.gave c.in_err-report.ensures.least)

pub returns-in_err-print_text-clause-least : goal.returns-in_err-print_text-clause-least
returns-in_err-print_text-clause-least g c =
    let files = g.F.Files in
    let before = files.counts c.args.files.now in
    let after = files.counts c.run_text.new.files in
    let plan = runnable_in (handed_by g.P.PlugFilter g.Q.PlugTally c.args.places.now) trial_text in
    let refused : c.from_residual-in_err-print_text.result ≡ Err c.in_err-print_text.field-0.0 = search rules in
    subst (λ r. IfErr r (IsPlanNamed plan before after)) (sym refused) (subst (IsPlanNamed plan before after) (sym c.in_err-print_text.ensures.err) tt)

pub returns-clause-least : goal.returns-clause-least
returns-clause-least g c = if-err c.print_report.result c.print_report.ensures.err (λ r is.
    subst (IsPlanNamed (runnable_in (handed_by g.P.PlugFilter g.Q.PlugTally c.args.places.now) trial_text) _ _) (sym is) tt)
