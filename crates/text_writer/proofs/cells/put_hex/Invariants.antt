use Rattle.std.proofs.Common.{◌-◌}
use Rattle.text_writer.proofs.Hex.{Digits}
use Rattle.text_writer.proofs.cells.put_hex.Given as goal

abbrev pub invariant-loop-count : goal.invariant-loop-count
invariant-loop-count l = Digits l.word l.end l.count l.rest l.initial.line l.line

abbrev pub decreases-loop-count : goal.decreases-loop-count
decreases-loop-count l = 16 - l.count
