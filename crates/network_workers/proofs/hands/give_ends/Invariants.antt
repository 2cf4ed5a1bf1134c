use Rattle.std.proofs.Common.{◌≡◌, take, vec_capacity}
use Rattle.network_workers.proofs.Picked.{IsGiving}
use Rattle.network_workers.proofs.hands.give_ends.Given as goal

abbrev pub invariant-loop-input : goal.invariant-loop-input
invariant-loop-input l =
    IsGiving l.seat l.fn.inns.items l.fn.ins.items (take l.input l.children) l.inns.items l.ins.items
    × (vec_capacity l.ins ≡ vec_capacity l.fn.ins)
