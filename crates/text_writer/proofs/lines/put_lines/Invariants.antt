use Rattle.text_writer.proofs.Putting.{Backward}
use Rattle.text_writer.proofs.lines.put_lines.Given as goal

abbrev pub invariant-loop-count : goal.invariant-loop-count
invariant-loop-count l = Backward l.form l.points l.count l.at l.initial.buffer l.buffer

abbrev pub decreases-loop-count : goal.decreases-loop-count
decreases-loop-count l = l.count
