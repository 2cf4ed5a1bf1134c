use Rattle.std.proofs.Common.{◌≡◌, ◌+◌, ◌≤◌, ◌++◌, map, reverse, vec_len}
use Rattle.std.specs.Prelude.{vec_capacity}
use Rattle.network_core.specs.Shown.{work_of}
use Rattle.run_engine.proofs.nodes.works_in.Given as goal

abbrev pub invariant-loop-node : goal.invariant-loop-node
invariant-loop-node g l = record {
  moved : l.works.items ++ map work_of (reverse l.nodes.items) ≡ map work_of l.fn.nodes.items;
  room : vec_len l.works + vec_len l.nodes ≤ vec_capacity l.works;
}

abbrev pub decreases-loop-node : goal.decreases-loop-node
decreases-loop-node g l = vec_len l.nodes
