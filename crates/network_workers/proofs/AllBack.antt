-- Before the first node is taken back, and after the last.
use Rattle.std.proofs.Common.{◌≡◌, ℕ, ◌<◌, List, [], length, Option, get_or, map, replicate, ap, subst, sym, ◌∙◌, arith}
use Rattle.std.specs.Prelude.{vec_len, slice_get}
use Rattle.std.proofs.lemmas.List.{drop_all, get_or-replicate, length-map, get_or-map}
use Rattle.cloud_points.specs.declared.work.Work.{Ghosts}
use Rattle.chunk_queue.specs.Ends.{OutSeen}
use Rattle.network_core.specs.declared.node.Node.{Node}
use Rattle.network_core.specs.declared.stop.Stop.{Stop}
use Rattle.network_workers.specs.declared.seats.Deal.{Deal}
use Rattle.network_workers.specs.Dealt.{Hand, hand_of, empty_hand, dealt, places, HandsCarry}
use Rattle.network_workers.specs.Lists.{Each}
use Rattle.network_workers.specs.Gathered.{AreCarried, Opened, AreTakenBack}
use Rattle.network_workers.specs.Seats.{SeatsCarry, DealsFit, DealsCarry}
use Rattle.network_workers.specs.Stopping.{DealsOver}
use Rattle.network_workers.proofs.OverBack.{not-both, over-none}

module _ {W S : Type 0} (g : Ghosts W S) (stop : Stop) (start : Opened W) (ins : List (List ℕ)) (goes : List ℕ) (deals : List (Deal W)) (nodes : List (Node W)) (outs : List (Option OutSeen)) where
  pub none-back : HandsCarry g (dealt goes (length deals) 0 (places 0 start.nodes ins start.outs start.inns)) deals → DealsFit g deals → DealsOver stop deals → nodes ≡ [] → outs ≡ []
      → AreTakenBack g stop start ins goes 0 deals nodes outs
  none-back hands fit over no_nodes no_outs = record {
    hands = hands;
    fit = fit;
    over = over-none g stop deals nodes no_nodes over;
    counts = (ap (λ (ys : List (Node W)). length ys) no_nodes, ap (λ (ys : List (Option OutSeen)). length ys) no_outs);
    carriage = record { sent = λ k. []; took = λ k input. []; left = λ k input. [] };
    parts = λ k input child l. absurd (omega (arith, l));
    carried = λ k n m e f. not-both (slice_get nodes k) m (ap (λ ys. slice_get ys k) no_nodes) f;
    whole = λ k m f. not-both (slice_get nodes k) m (ap (λ ys. slice_get ys k) no_nodes) f;
    kept = λ k l. absurd (omega (arith, l));
  }

  module _ (place : ℕ) (h : AreTakenBack g stop start ins goes place deals nodes outs) (all : place ≡ length start.nodes) where
    pub all-carried : AreCarried g ins start.nodes nodes
    all-carried = record {
      count = h.counts.0 ∙ all;
      carriage = h.carriage;
      parts = λ k input child l. h.parts k input child (omega (arith, l, all));
      nodes = h.carried;
      whole = h.whole;
    }

    pub deals-empty : Each (λ i (deal : Deal W). vec_len deal.seats ≡ 0) deals
    deals-empty i d l =
        let hands : HandsCarry g (replicate (length deals) empty_hand) deals =
        subst (λ ns. HandsCarry g (dealt goes (length deals) place (places place ns ins start.outs start.inns)) deals) (drop_all place start.nodes (omega (arith, all))) h.hands in
        let c = hands.each i empty_hand d (let n = hands.len in omega (arith, l, n)) in
        (get_or deals i d).seats.ok.0 ∙ c.seats.len ∙ ap (λ (z : Hand W). length z.seats) (get_or-replicate {A = Hand W} (length deals) i empty_hand empty_hand l)

-- the deals after the workers' and the caller's turns
pub hands-on : {W S : Type 0} (g : Ghosts W S) (hands : List (Hand W)) (deals later : List (Deal W)) → map hand_of deals ≡ hands → DealsCarry g deals later → HandsCarry g hands later
hands-on {W = W} g hands deals later e h = record {
  len = h.len ∙ sym (length-map deals hand_of) ∙ ap (λ (z : List (Hand W)). length z) e;
  each = λ i p d l.
      let inside : i < length deals = (let a = length-map deals hand_of in let b : length (map hand_of deals) ≡ length hands = ap (λ (z : List (Hand W)). length z) e in omega (arith, l, a, b)) in
      subst (λ (z : Hand W). SeatsCarry g z.ins (get_or later i d).ins.items z.seats (get_or later i d).seats.items)
      (sym (get_or-map hand_of deals i d p inside) ∙ ap (λ z. get_or z i p) e) (h.each i d inside);
}
