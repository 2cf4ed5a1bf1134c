use Rattle.std.proofs.Common.{◌≡◌, vec_len}
use Rattle.network_workers.specs.Lists.{Each}
use Rattle.network_workers.proofs.rooms.WorkerRoom.end_deals.Given as goal

abbrev pub invariant-loop-deal : goal.invariant-loop-deal
invariant-loop-deal g l = Each (λ i deal. vec_len deal.seats ≡ 0) l.deals.items

abbrev pub decreases-loop-deal : goal.decreases-loop-deal
decreases-loop-deal g l = vec_len l.deals
