use Rattle.std.proofs.Common.{◌≡◌, ◌≤◌, ◌++◌, drop, length, vec_len}
use Rattle.std.specs.Prelude.{vec_capacity}
use Rattle.stage_runs.specs.Parts.{gathers_of}
use Rattle.stage_runs.proofs.plan.gathers_of.Given as goal

abbrev pub invariant-loop-stage : goal.invariant-loop-stage
invariant-loop-stage l = record {
  done : l.gathers.items ++ gathers_of (drop l.stage-index l.stages) ≡ gathers_of l.stages;
  count : vec_len l.gathers ≡ l.stage-index;
  room : length l.stages ≤ vec_capacity l.gathers;
}
