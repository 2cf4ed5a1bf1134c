use Rattle.stage_runs.specs.Parts.{AreLaterNodes, AreRunBefore, AreTurned}
use Rattle.stage_runs.proofs.runs.run_gathering.Given as goal

abbrev pub invariant-loop-at : goal.invariant-loop-at
invariant-loop-at g l = record {
  later : AreLaterNodes g.S.Source g.K.Sink g.P.PlugFilter g.Q.PlugTally l.initial.nodes l.nodes;
  done : AreRunBefore g.S.Source g.K.Sink g.P.PlugFilter g.Q.PlugTally l.stages l.plan.homes.items l.initial.nodes l.at l.nodes;
  turned : AreTurned g.S.Source g.K.Sink g.P.PlugFilter g.Q.PlugTally l.stages l.plan.homes.items l.initial.nodes (g.T.Scheduler.besides l.sizes.queue) l.at l.nodes;
}
