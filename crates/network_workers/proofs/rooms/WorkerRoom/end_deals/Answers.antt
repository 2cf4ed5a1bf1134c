use Rattle.std.proofs.Common.{◌≡◌, vec_len}
use Rattle.network_workers.proofs.NewRoom.{each-rest, each-last}
use Rattle.network_workers.proofs.rooms.WorkerRoom.end_deals.Goals as goal

pub destroy_empty-requires : goal.destroy_empty-requires
destroy_empty-requires g c = each-last (λ deal. vec_len deal.seats ≡ 0) c.pop.new.self.items c.loop-deal.deals.items c.in-Some.deal c.in-Some.ensures.items c.loop-deal.invariant

pub loop-deal-preserved : goal.loop-deal-preserved
loop-deal-preserved g c = each-rest (λ deal. vec_len deal.seats ≡ 0) c.pop.new.self.items c.loop-deal.deals.items c.in-Some.deal c.in-Some.ensures.items c.loop-deal.invariant
