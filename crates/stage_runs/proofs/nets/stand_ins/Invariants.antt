use Rattle.std.proofs.Common.{◌≤◌}
use Rattle.std.specs.Prelude.{vec_capacity}
use Rattle.stage_runs.specs.Parts.{AreStandIns}
use Rattle.stage_runs.proofs.nets.stand_ins.Given as goal

abbrev pub invariant-loop-place : goal.invariant-loop-place
invariant-loop-place g l = record {
  made : AreStandIns g.S.Source g.K.Sink g.P.PlugFilter g.Q.PlugTally l._place l.nodes.items;
  room : l.count ≤ vec_capacity l.nodes;
}
