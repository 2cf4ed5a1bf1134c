use Rattle.std.proofs.Common.{◌≡◌, [], take, length, true, None}
use Rattle.cloud_points.specs.Flows.{all_of}
use Rattle.cloud_points.specs.Queue.{up_to_limit}
use Rattle.stage_kinds.specs.Files.{chosen, count_of, sink_of}
use Rattle.stage_kinds.specs.Stages.{first_stop, holds_chosen, only_of, writes_of}
use Rattle.set_engine.proofs.writers.write_all.Given as goal

-- the points of the views before this one were taken
abbrev pub invariant-loop-v : goal.invariant-loop-v
invariant-loop-v g l =
    let sink = g.K.Sink in
    let before = all_of (take l.v l.views.views) in
    record {
      number : l.number ≡ up_to_limit (length before);
      form : writes_of l.writer ≡ writes_of l.fn.writer;
      none : count_of l.fn.writer.file ≡ 0 → first_stop (writes_of l.fn.writer) 0 before ≡ None;
      count : count_of l.fn.writer.file ≡ 0 → count_of l.writer.file ≡ up_to_limit (length (chosen (only_of l.fn.writer) before));
      holds : holds_chosen sink.bytes l.fn.writer [] ≡ true → holds_chosen sink.bytes l.writer before ≡ true;
      calm : sink.faults (sink_of l.writer.file) ≡ sink.faults (sink_of l.fn.writer.file);
    }
