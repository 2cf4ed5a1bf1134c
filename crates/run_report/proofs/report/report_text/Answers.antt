use Rattle.std.proofs.Common.{rules, arith, subst, ap, ◌∙◌, ◌++◌, codes, decimal}
use Rattle.std.proofs.lemmas.Result.{err_from_is_err_and}
use Rattle.file_devices.specs.Content.{Appends, AppendsPart}
use Rattle.run_report.specs.Reports.{lines_of, stage_text}
use Rattle.run_report.proofs.Lines.{OnErr-more, reporting_more, report_part, all_lines, last_line, part_of_second}
use Rattle.run_report.proofs.report.report_text.Goals as goal

pub loop-count-preserved : goal.loop-count-preserved
loop-count-preserved g c =
    reporting_more c.args.report.now c.loop-count.count-index _ _ _ _ _ _ _ (search rules)
    (subst (λ text. Appends (g.K.Sink.bytes c.loop-count.out) text (g.K.Sink.bytes c.append.new.self)) (c.as_bytes.ensures.value ∙ c.deref.ensures.0 ∙ c.stage_text-text.ensures ∙ ap stage_text c.count-item.is) c.in_ok-append.ensures.ok)
    c.in_ok-append.ensures.cause.calm c.loop-count.invariant

pub returns-in_err-append-clause-part : goal.returns-in_err-append-clause-part
returns-in_err-append-clause-part g c =
    let p = err_from_is_err_and c.from_residual.result c.from_residual.ensures.1 in
    rw p.1 (report_part c.args.report.now c.loop-count.count-index _ _ _ _ _ _ (search rules) c.loop-count.invariant
    (subst (λ text. AppendsPart (g.K.Sink.bytes c.loop-count.out) text (g.K.Sink.bytes c.append.new.self)) (c.as_bytes.ensures.value ∙ c.deref.ensures.0 ∙ c.stage_text-text.ensures ∙ ap stage_text c.count-item.is) c.in_err-append.ensures.part))

pub returns-clause-part : goal.returns-clause-part
returns-clause-part g c =
    let all = all_lines c.args.report.now c.loop-count.count-index _ _ _ _ (omega (arith, c.loop-count-test.false)) c.loop-count.invariant in
    let text = c.as_bytes-2.ensures.value ∙ c.deref-2.ensures.0 ∙ c.outputs_line-text.ensures ∙ ap (λ outputs. codes "outputs " ++ decimal outputs ++ codes "\n") c.outputs_in.ensures in
    OnErr-more c.append-2.result _ _ (λ part. part_of_second (lines_of c.args.report.now) (last_line c.args.report.now) _ _ _ all
    (subst (λ line. AppendsPart (g.K.Sink.bytes c.loop-count.out) line (g.K.Sink.bytes c.append-2.new.self)) text part)) c.append-2.ensures.part
