use Rattle.text_writer.proofs.Headings.{Headed}
use Rattle.text_writer.proofs.header.header_line.Given as goal

abbrev pub invariant-loop-column : goal.invariant-loop-column
invariant-loop-column l = Headed l.form l.column-index l.is_first l.line.items
