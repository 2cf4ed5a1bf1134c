use Rattle.std.proofs.Common.{◌≡◌, ◌≤◌, ◌-◌, ◌++◌, true, List, length, take}
use Rattle.cloud_points.specs.declared.point.Point.{Point}
use Rattle.stage_kinds.specs.Files.{sink_of}
use Rattle.stage_kinds.specs.Stages.{holds_chosen, writes_of}
use Rattle.stage_kinds.proofs.view_writing.put_rows.Given as goal

-- it took the points before this one
abbrev pub invariant-loop-at : goal.invariant-loop-at
invariant-loop-at g l = record {
  within : l.at ≤ length l.view;
  form : writes_of l.writer ≡ writes_of l.fn.writer;
  holds : (before : List Point) → holds_chosen g.K.Sink.bytes l.fn.writer before ≡ true → holds_chosen g.K.Sink.bytes l.writer (before ++ take l.at l.view) ≡ true;
  calm : g.K.Sink.faults (sink_of l.writer.file) ≡ g.K.Sink.faults (sink_of l.fn.writer.file);
}

abbrev pub decreases-loop-at : goal.decreases-loop-at
decreases-loop-at g l = length l.view - l.at
