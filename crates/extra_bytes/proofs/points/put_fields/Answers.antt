use Rattle.std.proofs.Common.{sym}
use Rattle.extra_bytes.proofs.Laying.{front_is, laid_more, laid_none}
use Rattle.extra_bytes.proofs.points.put_fields.Goals as goal

pub loop-field-init : goal.loop-field-init
loop-field-init c = laid_none c.args.fields.now c.args.point.now c.args.at c.args.bytes.now c.requires.laid

pub returns-in_err-end-clause-before : goal.returns-in_err-end-clause-before
returns-in_err-end-clause-before c =
    front_is c.args.fields.now c.args.point.now c.args.at c.loop-field.field-index c.loop-field.end c.field-item.result c.args.bytes.now c.loop-field.bytes
    c.loop-field-test.true (sym c.field-item.is) c.requires.room c.loop-field.invariant c.put_field.new.bytes c.put_field.ensures.before c.put_field.ensures.len

pub loop-field-preserved : goal.loop-field-preserved
loop-field-preserved c =
    laid_more c.args.fields.now c.args.point.now c.args.at c.loop-field.field-index c.loop-field.end c.field-item.result c.args.bytes.now c.loop-field.bytes
    c.loop-field-test.true (sym c.field-item.is) c.requires.room c.loop-field.invariant c.in_ok-end.end c.put_field.new.bytes c.in_ok-end.ensures.end c.in_ok-end.ensures.ok
    c.put_field.ensures.before c.put_field.ensures.len
