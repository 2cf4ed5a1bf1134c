use Rattle.std.proofs.Common.{◌+◌, Some, ap, sym, subst, ◌∙◌, arith}
use Rattle.stage_kinds.proofs.Judged.{Judged, none-judged, judged-stops, judged-more, all-judged}
use Rattle.stage_kinds.proofs.judging.judge_view.Goals as goal

pub loop-k-init : goal.loop-k-init
loop-k-init c = none-judged c.args.places.now c.args.only.now c.args.before c.args.view.now

pub returns-in-Err-clause-err : goal.returns-in-Err-clause-err
returns-in-Err-clause-err c = λ m e.
    judged-stops c.args.places.now c.args.only.now c.args.before c.args.view.now c.loop-k.k c.loop-k.number c.loop-k.written c.get.result c.loop-k.invariant c.get.ensures
    c.in-Err.reason c.in-Err.ensures.err m e ∙ ap (λ f. Some f) (sym c.at.ensures)

pub loop-k-preserved : goal.loop-k-preserved
loop-k-preserved c =
    subst (λ n. Judged c.args.places.now c.args.only.now c.args.before c.args.view.now (c.loop-k.k + 1) n c.one_more_if-written.result) (sym c.saturating_add-number.ensures)
    (judged-more c.args.places.now c.args.only.now c.args.before c.args.view.now c.loop-k.k c.loop-k.number c.loop-k.written c.get.result c.loop-k.invariant c.get.ensures
    c.in-Ok.chosen c.one_more_if-written.result c.in-Ok.ensures.chooses c.one_more_if-written.ensures c.in-Ok.ensures.ok)

pub returns-clause-ok : goal.returns-clause-ok
returns-clause-ok c = all-judged c.args.places.now c.args.only.now c.args.before c.args.view.now c.loop-k.k c.loop-k.number c.loop-k.written
    (let t = c.loop-k-test.false in let e = c.loop-k.auto.k-end in let n = c.len-k-end.ensures in omega (arith, t, e, n)) c.loop-k.invariant
