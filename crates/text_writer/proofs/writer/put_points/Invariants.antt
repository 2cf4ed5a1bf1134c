use Rattle.std.proofs.Common.{◌-◌, length}
use Rattle.text_writer.proofs.Putting.{Putting}
use Rattle.text_writer.proofs.writer.put_points.Given as goal

abbrev pub invariant-loop-from : goal.invariant-loop-from
invariant-loop-from g l = Putting l.form l.points l.from (length l.initial.buffer) (length l.buffer) (g.K.Sink.bytes l.initial.sink) (g.K.Sink.bytes l.sink) (g.K.Sink.faults l.initial.sink) (g.K.Sink.faults l.sink)

abbrev pub decreases-loop-from : goal.decreases-loop-from
decreases-loop-from g l = length l.points - l.from
