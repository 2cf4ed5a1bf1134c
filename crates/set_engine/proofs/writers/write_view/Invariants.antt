use Rattle.std.proofs.Common.{◌≡◌, ◌+◌, ◌++◌, ℕ, List, length, take, true, None}
use Rattle.cloud_points.specs.Queue.{up_to_limit}
use Rattle.cloud_points.specs.declared.point.Point.{Point}
use Rattle.stage_kinds.specs.Files.{chosen, count_of, sink_of}
use Rattle.stage_kinds.specs.Stages.{first_stop, holds_chosen, only_of, writes_of}
use Rattle.set_engine.proofs.writers.write_view.Given as goal

-- the points before this one were taken
abbrev pub invariant-loop-k : goal.invariant-loop-k
invariant-loop-k g l =
    let sink = g.K.Sink in
    let before = take l.k l.view in
    record {
      number : l.number ≡ up_to_limit (l.before + l.k);
      form : writes_of l.writer ≡ writes_of l.fn.writer;
      none : (k : ℕ) → count_of l.fn.writer.file ≡ up_to_limit k → first_stop (writes_of l.fn.writer) (up_to_limit k) before ≡ None;
      count : (k : ℕ) → count_of l.fn.writer.file ≡ up_to_limit k → count_of l.writer.file ≡ up_to_limit (k + length (chosen (only_of l.fn.writer) before));
      holds : (earlier : List Point) → holds_chosen sink.bytes l.fn.writer earlier ≡ true → holds_chosen sink.bytes l.writer (earlier ++ before) ≡ true;
      calm : sink.faults (sink_of l.writer.file) ≡ sink.faults (sink_of l.fn.writer.file);
    }
