use Rattle.text_writer.proofs.Headings.{Fields}
use Rattle.text_writer.proofs.lines.put_fields.Given as goal

abbrev pub invariant-loop-count : goal.invariant-loop-count
invariant-loop-count l = Fields l.point l.form l.end l.at l.count l.initial.line l.line

abbrev pub decreases-loop-count : goal.decreases-loop-count
decreases-loop-count l = l.count
