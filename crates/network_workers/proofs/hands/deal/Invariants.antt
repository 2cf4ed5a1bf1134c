use Rattle.std.proofs.Common.{◌≡◌, ◌≤◌, vec_len, vec_capacity, length}
use Rattle.network_workers.proofs.Deals.{IsDealing}
use Rattle.network_workers.proofs.hands.deal.Given as goal

abbrev pub invariant-loop-node : goal.invariant-loop-node
invariant-loop-node g l =
    IsDealing l.fn.nodes l.ins l.fn.room.outs.items l.fn.room.inns.items l.fn.room.takers.items (length l.fn.room.deals.items) l.nodes.items l.outs.items l.inns.items l.deals.items
    × (vec_capacity l.outs ≡ vec_capacity l.fn.room.outs)
    × (length l.fn.nodes ≤ vec_capacity l.nodes)

abbrev pub decreases-loop-node : goal.decreases-loop-node
decreases-loop-node g l = vec_len l.nodes
