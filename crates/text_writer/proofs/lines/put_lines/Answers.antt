use Rattle.std.proofs.Common.{rules}
use Rattle.text_writer.proofs.Putting.{none_written, line_written}
use Rattle.text_writer.proofs.lines.put_lines.Goals as goal

pub loop-count-init : goal.loop-count-init
loop-count-init c = none_written c.args.form.now c.args.points.now c.args.buffer.now c.requires.room

pub loop-count-preserved : goal.loop-count-preserved
loop-count-preserved c =
    line_written c.args.form.now c.args.points.now c.loop-count.count c.loop-count.at c.put_line-at.result _ c.args.buffer.now c.loop-count.buffer c.put_line-at.new.line
    c.loop-count-test.true c.put_line-at.ensures.start c.put_line-at.ensures.short (search rules) c.put_line-at.ensures.written c.loop-count.invariant
