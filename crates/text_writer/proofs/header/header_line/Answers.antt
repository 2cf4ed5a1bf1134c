use Rattle.std.proofs.Common.{rules}
use Rattle.text_writer.proofs.Headings.{headed_none, headed_first, headed_later}
use Rattle.text_writer.proofs.header.header_line.Goals as goal
use Rattle.text_writer.proofs.header.header_line.Goals.{then-not-is_first+in_ok-extend_from_slice, else-not-is_first}

pub loop-column-init : goal.loop-column-init
loop-column-init c = headed_none c.args.form.now c.new-line.result.items (search rules)

pub loop-column-preserved : goal.loop-column-preserved
loop-column-preserved c = elim c.if-not-is_first.branch [
  | then-not-is_first+in_ok-extend_from_slice w ↦ headed_later c.args.form.now c.loop-column.column-index c.column-item.result c.loop-column.is_first c.loop-column.line.items _ (search rules) (search rules) c.loop-column.invariant (search rules)
  | else-not-is_first w ↦ headed_first c.args.form.now c.loop-column.column-index c.column-item.result c.loop-column.is_first c.loop-column.line.items _ (search rules) w.if-not-is_first.false c.loop-column.invariant (search rules)
]
