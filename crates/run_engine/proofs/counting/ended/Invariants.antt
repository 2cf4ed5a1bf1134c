use Rattle.std.proofs.Common.{◌≡◌, map, take}
use Rattle.arrayvec.specs.ArrayVec.{array_vec_len}
use Rattle.network_core.specs.declared.node.Node.{Node}
use Rattle.run_engine.specs.Counted.{AreCounted}
use Rattle.run_engine.proofs.counting.ended.Given as goal

-- the nodes before this one are counted
abbrev pub invariant-loop-i : goal.invariant-loop-i
invariant-loop-i g l = record {
  counted : AreCounted g.Q.PlugTally l.stages l.nodes l.report.items;
  count : array_vec_len l.report ≡ l.i;
  faults : l.faults.items ≡ map (λ (n : Node _). n.fault) (take l.i l.nodes);
}
