use Rattle.std.proofs.Common.{◌≡◌, ◌≤◌, ◌+◌, length, take, drop, map, reverse, vec_len}
use Rattle.std.specs.Prelude.{vec_capacity}
use Rattle.network_core.specs.Shown.{work_of}
use Rattle.run_engine.proofs.NewNodes.{AreNew}
use Rattle.run_engine.proofs.nodes.nodes_over.Given as goal

abbrev pub invariant-loop-work : goal.invariant-loop-work
invariant-loop-work g l = record {
  left : reverse l.works.items ≡ drop l.at l.fn.works.items;
  count : l.at + vec_len l.works ≡ length l.fn.works.items;
  moved : map work_of l.nodes.items ≡ take l.at l.fn.works.items;
  nodes : vec_len l.nodes ≡ l.at;
  room : length l.stages ≤ vec_capacity l.nodes;
  new : AreNew g.S.Source g.K.Sink g.P.PlugFilter g.Q.PlugTally l.stages l.chunk l.nodes.items;
}

abbrev pub decreases-loop-work : goal.decreases-loop-work
decreases-loop-work g l = vec_len l.works
