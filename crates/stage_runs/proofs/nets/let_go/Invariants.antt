use Rattle.std.proofs.Common.{◌≡◌, ℕ, Some, slice_get, vec_len}
use Rattle.network_core.specs.declared.node.Node.{Node}
use Rattle.stage_kinds.specs.declared.held.Held.TheVariants.{Nothing}
use Rattle.stage_kinds.specs.Held.{held_by}
use Rattle.stage_runs.proofs.nets.let_go.Given as goal

abbrev pub invariant-loop-node : goal.invariant-loop-node
invariant-loop-node g l = (i : ℕ) (n : Node _) → slice_get l.nodes.items i ≡ Some n → held_by n.work ≡ Nothing

abbrev pub decreases-loop-node : goal.decreases-loop-node
decreases-loop-node g l = vec_len l.nodes
