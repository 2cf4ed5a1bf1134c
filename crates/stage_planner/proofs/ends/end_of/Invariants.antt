use Rattle.std.proofs.Common.{◌≡◌, ◌<◌, length}
use Rattle.stage_planner.specs.Plans.{next, times_over}
use Rattle.stage_planner.proofs.ends.end_of.Given as goal

abbrev pub invariant-loop-step : goal.invariant-loop-step
invariant-loop-step l = record {
  at : l.at ≡ times_over l._step (next l.stages) l.fn.j;
  inside : l.at < length l.stages;
}
