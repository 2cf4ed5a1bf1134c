use Rattle.std.proofs.Common.{◌≡◌, ◌≤◌, length, vec_capacity}
use Rattle.network_theory.specs.Forest.{count_in}
use Rattle.network_workers.specs.Lists.{Each}
use Rattle.network_workers.specs.Rooms.{IsIdle}
use Rattle.network_workers.proofs.rooms.WorkerRoom.new_deals.Given as goal

abbrev pub invariant-loop-worker : goal.invariant-loop-worker
invariant-loop-worker g l =
    Each (λ i deal. IsIdle (count_in i l.takers) l.ends deal) l.deals.items
    × (length l.deals.items ≡ l.worker) × (vec_capacity l.deals ≡ l.workers) × (l.worker ≤ l.workers)
