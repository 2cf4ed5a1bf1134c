-- The node at a place is taken back, as the code meets it.
use Rattle.std.proofs.Common.{◌≡◌, ℕ, suc, ◌+◌, ◌-◌, ◌<◌, ◌≤◌, List, [], ◌∷◌, ◌++◌, length, take, Option, Some, get_or, set, ap, subst, sym, ◌∙◌, arith}
use Rattle.std.specs.Prelude.{slice_get}
use Rattle.cloud_points.specs.declared.work.Work.{Ghosts}
use Rattle.chunk_queue.specs.Ends.{OutSeen}
use Rattle.network_theory.specs.Forest.{children}
use Rattle.network_core.specs.declared.node.Node.{Node}
use Rattle.network_core.specs.declared.stop.Stop.{Stop}
use Rattle.network_core.proofs.Opened.{some_at}
use Rattle.network_workers.specs.declared.seats.Seat.{Seat}
use Rattle.network_workers.specs.declared.seats.Deal.{Deal}
use Rattle.network_workers.specs.Dealt.{AreWorkers, worker_at}
use Rattle.network_workers.specs.Gathered.{Opened, IsStart, AreTakenBack, AreOfOne, IsSettled, EdgesFrom, without, AreOnce}
use Rattle.network_workers.proofs.TakingBack.{room, some-seat, one, once, one-more-back}

module _ {W S : Type 0} (g : Ghosts W S) (stop : Stop) (start : Opened W) (ins : List (List ℕ)) (goes : List ℕ) (ok : IsStart g ins start) (place : ℕ) (inside : place < length start.nodes) (deals : List (Deal W))
    (workers : AreWorkers (length deals) goes) (nodes : List (Node W)) (outs : List (Option OutSeen)) (h : AreTakenBack g stop start ins goes place deals nodes outs) (worker : ℕ) (whose : worker ≡ worker_at goes place)
    (deal : Deal W) (here : deal ≡ get_or deals worker deal) (cs : List ℕ) (childs : cs ≡ children ins place) where
  root : ℕ
  root = length start.nodes - 1

  size : length start.nodes ≡ length start.nodes - 1 + 1
  size = let s = ok.some in omega (arith, s)

  node_at : (n : Node W) × (slice_get start.nodes place ≡ Some n)
  node_at = some_at start.nodes place inside

  there : get_or deals (worker_at goes place) deal ≡ deal
  there = sym (here ∙ ap (λ k. get_or deals k deal) whose)

  pub seat-there : 0 < length deal.seats.items
  seat-there = subst (λ (z : Deal W). 0 < length z.seats.items) there
      (some-seat g stop start ins goes (length start.nodes - 1) place ok.opened size ok.fresh ok.forest deals workers nodes outs h node_at.0 node_at.1 deal)

  pub ends-there : length cs ≤ length deal.ins.items
  ends-there = subst (λ xs. length xs ≤ length deal.ins.items) (sym childs) (subst (λ (z : Deal W). length (children ins place) ≤ length z.ins.items) there
      (room g stop start ins goes (length start.nodes - 1) place ok.opened size ok.fresh ok.forest deals workers nodes outs h node_at.0 node_at.1 deal))

  pub children-once : AreOnce cs
  children-once = subst (λ xs. AreOnce xs) (sym childs)
      (once g stop start ins goes (length start.nodes - 1) place ok.opened size ok.fresh ok.forest deals workers nodes outs h node_at.0 node_at.1 deal)

  pub edges-one : EdgesFrom AreOfOne outs cs (length deal.ins.items - length cs) deal.ins.items
  edges-one = subst (λ xs. EdgesFrom AreOfOne outs xs (length deal.ins.items - length xs) deal.ins.items) (sym childs)
      (subst (λ (z : Deal W). EdgesFrom AreOfOne outs (children ins place) (length z.ins.items - length (children ins place)) z.ins.items) there
      (one g stop start ins goes (length start.nodes - 1) place ok.opened size ok.fresh ok.forest deals workers nodes outs h node_at.0 node_at.1 deal))

  pub place-back : (y : Deal W) (seat : Seat W) (nodes_now : List (Node W)) (outs_left outs_now : List (Option OutSeen)) → deal.seats.items ≡ y.seats.items ++ seat ∷ []
      → y.ins.items ≡ take (length deal.ins.items - length cs) deal.ins.items → EdgesFrom IsSettled outs cs (length deal.ins.items - length cs) deal.ins.items
      → outs_left ≡ without outs cs → nodes_now ≡ nodes ++ seat.node ∷ [] → outs_now ≡ outs_left ++ seat.out ∷ []
      → AreTakenBack g stop start ins goes (place + 1) (set deals worker y) nodes_now outs_now
  place-back y seat nodes_now outs_left outs_now seats ends settled left a b =
      let back : AreTakenBack g stop start ins goes (suc place) (set deals (worker_at goes place) y) (nodes ++ seat.node ∷ []) (without outs (children ins place) ++ seat.out ∷ []) =
      one-more-back g stop start ins goes (length start.nodes - 1) place ok.opened size ok.fresh ok.forest deals workers nodes outs h node_at.0 node_at.1 deal y seat
      (ap (λ (z : Deal W). z.seats.items) there ∙ seats)
      (subst (λ xs. y.ins.items ≡ take (length (get_or deals (worker_at goes place) deal).ins.items - length xs) (get_or deals (worker_at goes place) deal).ins.items) childs
      (subst (λ (z : Deal W). y.ins.items ≡ take (length z.ins.items - length cs) z.ins.items) (sym there) ends))
      (subst (λ xs. EdgesFrom IsSettled outs xs (length (get_or deals (worker_at goes place) deal).ins.items - length xs) (get_or deals (worker_at goes place) deal).ins.items) childs
      (subst (λ (z : Deal W). EdgesFrom IsSettled outs cs (length z.ins.items - length cs) z.ins.items) (sym there) settled)) in
      subst (λ p. AreTakenBack g stop start ins goes p (set deals worker y) nodes_now outs_now) {x = suc place} {y = place + 1} (omega arith)
      (subst (λ k. AreTakenBack g stop start ins goes (suc place) (set deals k y) nodes_now outs_now) (sym whose)
      (subst (λ ns. AreTakenBack g stop start ins goes (suc place) (set deals (worker_at goes place) y) ns outs_now) (sym a)
      (subst (λ os. AreTakenBack g stop start ins goes (suc place) (set deals (worker_at goes place) y) (nodes ++ seat.node ∷ []) os)
      (sym (b ∙ ap (λ os. os ++ seat.out ∷ []) (left ∙ ap (without outs) childs))) back)))
