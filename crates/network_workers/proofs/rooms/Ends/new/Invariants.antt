use Rattle.std.proofs.Common.{◌≡◌, ◌-◌, ◌≤◌, length, vec_capacity}
use Rattle.network_workers.specs.Rooms.{HaveCapacity}
use Rattle.network_workers.proofs.NewEnds.{AreOpening}
use Rattle.network_workers.proofs.rooms.Ends.new.Given as goal

abbrev pub invariant-loop-node : goal.invariant-loop-node
invariant-loop-node l =
    AreOpening l._node l.outs.items l.inns.items
    × (length l.outs.items ≡ l._node) × (length l.inns.items ≡ l._node)
    × (vec_capacity l.outs ≡ l.nodes) × (vec_capacity l.inns ≡ l.nodes - 1)
    × (l._node ≤ l.nodes - 1) × HaveCapacity l.queue l.outs.items
