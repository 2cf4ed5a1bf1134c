use Rattle.std.proofs.Common.{arith, rules}
use Rattle.std.proofs.lemmas.List.{take_all}
use Rattle.text_writer.proofs.Putting.{putting_more, putting_part, on_err_is}
use Rattle.text_writer.proofs.writer.put_points.Goals as goal

pub loop-from-preserved : goal.loop-from-preserved
loop-from-preserved g c =
    putting_more c.args.form.now c.args.points.now c.loop-from.from c.next_stop-to.result _ _ _ _ _ _ _ _ (omega (arith, c.next_stop-to.ensures.later)) c.next_stop-to.ensures.within (search rules)
    c.in_ok-append_lines.ensures.ok c.in_ok-append_lines.ensures.cause.calm c.loop-from.invariant.put c.loop-from.invariant.calm

pub returns-in_err-append_lines-clause-part : goal.returns-in_err-append_lines-clause-part
returns-in_err-append_lines-clause-part g c =
    on_err_is c.from_residual.result (putting_part c.args.form.now c.args.points.now c.loop-from.from c.next_stop-to.result _ _ _ (omega (arith, c.next_stop-to.ensures.later)) c.in_err-append_lines.ensures.part c.loop-from.invariant.put)

pub returns-clause-ok : goal.returns-clause-ok
returns-clause-ok g c = rw (take_all c.loop-from.from c.args.points.now (omega (arith, c.loop-from-test.false))) at c.loop-from.invariant.put
