use Rattle.std.proofs.Common.{◌≡◌, ◌-◌, ◌≤◌, [], true}
use Rattle.las_writer.specs.Holding.{holds_las}
use Rattle.cloud_gen.specs.GeneratedFile.{generated_points, generated_form}
use Rattle.cloud_gen.proofs.file.put_points.Given as goal

abbrev pub invariant-loop-start : goal.invariant-loop-start
invariant-loop-start g l = record {
  within : l.start ≤ l.count;
  form : l.writer.form ≡ generated_form;
  holds : holds_las (g.K.Sink.bytes l.initial.writer.sink) generated_form l.initial.writer.totals [] ≡ true
      → holds_las (g.K.Sink.bytes l.writer.sink) generated_form l.writer.totals (generated_points l.start) ≡ true;
  calm : g.K.Sink.faults l.writer.sink ≡ g.K.Sink.faults l.initial.writer.sink;
}

abbrev pub decreases-loop-start : goal.decreases-loop-start
decreases-loop-start g l = l.count - l.start
