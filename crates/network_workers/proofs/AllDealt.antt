-- A tree's nodes are dealt: the next one, and all.
use Rattle.std.proofs.Common.{◌≡◌, ℕ, ◌-◌, ◌<◌, ◌≤◌, List, [], ◌∷◌, ◌++◌, length, Option, Some, refl, ap, subst, sym, ◌∙◌, arith, length-append}
use Rattle.std.specs.Prelude.{slice_get, slice_index_or, slice_set, option_to_list, IsSome}
use Rattle.std.specs.Option.{option_flatten}
use Rattle.cloud_points.specs.declared.work.Work.{Ghosts}
use Rattle.chunk_queue.specs.Ends.{InSeen, OutSeen}
use Rattle.network_theory.specs.Forest.{children, IsForest}
use Rattle.network_theory.specs.Opening.{IsFresh}
use Rattle.network_core.specs.declared.node.Node.{Node}
use Rattle.network_core.specs.Shown.{shown}
use Rattle.network_workers.specs.declared.seats.Deal.{Deal}
use Rattle.network_workers.specs.Dealt.{AreOpened, empty_hand, with_place, dealt, places}
use Rattle.network_workers.specs.Lists.{Each}
use Rattle.network_workers.specs.Rooms.{present, left, ends_at, hands_of, AreThere, OthersStay, HasSeat, HasEnds, HaveRoom, IsRoom}
use Rattle.network_workers.specs.Seats.{DealsFit, AreFew}
use Rattle.network_workers.proofs.Deals.{IsDealing, last-out, next-worker, next-there, next-seat, next-dealt, all-dealt, length-places}
use Rattle.network_workers.proofs.Fits.{deals-count, deals-few, tree-fits}
use Rattle.network_workers.proofs.Lists.{any_default}

-- what a worker needs to be given the next node, and what is dealt then
pub record Next {W : Type 0} (all : List (Node W)) (ins : List (List ℕ)) (above : List (Option OutSeen)) (below : List (Option InSeen)) (goes : List ℕ) (workers to : ℕ) (inns : List (Option InSeen)) (deals : List (Deal W))
    (nodes : List (Node W)) (node : Node W) (outs : List (Option OutSeen)) (out : Option OutSeen) (place : ℕ) (kids : List ℕ) : Type 0 where
  pub worker : to < length deals
  pub there : AreThere inns kids
  pub seat : (d : Deal W) → HasSeat (slice_index_or deals to d)
  pub ends : Each (λ i deal. HasEnds (left inns) deal) deals
  pub dealt : (inns' : List (Option InSeen)) (deals' : List (Deal W))
      → hands_of deals' ≡ slice_set (hands_of deals) to (with_place (record { stage = place; node = node; out = out; ins = ends_at inns kids }) (slice_index_or (hands_of deals) to empty_hand))
      → OthersStay kids inns inns' → ((gs : List ℕ) → HaveRoom gs (left inns) deals → HaveRoom gs (left inns') deals') → left inns' ≤ left inns → IsDealing all ins above below goes workers nodes outs inns' deals'

module _ {W : Type 0} (all : List (Node W)) (ins : List (List ℕ)) (held : ℕ) (goes : List ℕ) (above : List (Option OutSeen)) (below : List (Option InSeen)) (idle : List (Deal W)) (room : IsRoom held goes above below idle) (same : length above ≡ length all)
    (forest : IsForest ins (length all - 1)) where
  pub next-of : (xs : List (Node W)) (os : List (Option OutSeen)) (inns : List (Option InSeen)) (deals : List (Deal W)) (h : IsDealing all ins above below goes (length idle) xs os inns deals)
      (nodes : List (Node W)) (node : Node W) (p : xs ≡ nodes ++ node ∷ []) (outs : List (Option OutSeen)) (popped : Option (Option OutSeen)) (out : Option OutSeen) (e : os ≡ outs ++ option_to_list popped) (some : 0 < length os → IsSome popped) (f : out ≡ option_flatten popped)
      (place : ℕ) (at : place ≡ length nodes) (kids : List ℕ) (kids_are : kids ≡ children ins place) (to : ℕ) (t : to ≡ slice_index_or goes place to) → Next all ins above below goes (length idle) to inns deals nodes node outs out place kids
  next-of xs os inns deals h nodes node p outs popped out e some f place at kids kids_are to t =
      let inside : place < length goes = (let g = room.takers.0 in let m = ap (λ (ys : List (Node W)). length ys) p in let a = length-append nodes (node ∷ []) in let e = ap (λ (ys : List (Node W)). length ys) h.nodes_are in let b = length-append xs h.behind in omega (arith, g, m, a, e, b, at, same)) in
      let q : os ≡ outs ++ out ∷ [] = last-out os outs popped out e (some (let n = h.count in let m = ap (λ (ys : List (Node W)). length ys) p in let a = length-append nodes (node ∷ []) in omega (arith, n, m, a))) f in
      subst (λ w. Next all ins above below goes (length idle) w inns deals nodes node outs out place kids) (sym (t ∙ any_default goes place to 0 inside)) (record {
        worker = next-worker all ins held goes above below idle room same forest xs os inns deals h nodes node p outs out q place at kids kids_are;
        there = next-there all ins held goes above below idle room same forest xs os inns deals h nodes node p outs out q place at kids kids_are;
        seat = next-seat all ins held goes above below idle room same forest xs os inns deals h nodes node p outs out q place at kids kids_are;
        ends = λ k d l. (h.room k d l).ins;
        dealt = λ inns' deals' gave others has less. next-dealt all ins held goes above below idle room same forest xs os inns deals h nodes node p outs out q place at kids kids_are
            inns' deals' gave others (has goes h.room) less;
      })

  no-nodes : (xs : List (Node W)) → length xs ≡ 0 → xs ≡ []
  no-nodes [] e = refl
  no-nodes (x ∷ xs) e = absurd (omega (arith, e))

  module _ (nodes : List (Node W)) (outs : List (Option OutSeen)) (inns : List (Option InSeen)) (deals : List (Deal W)) (h : IsDealing all ins above below goes (length idle) nodes outs inns deals) (none : length nodes ≡ 0) where
    pub ended-dealt : hands_of deals ≡ dealt goes (length idle) 0 (places 0 all ins (present above) (present below))
    ended-dealt = all-dealt all ins above below goes (length idle) forest room.ends.outs_are (room.ends.opened.count.1 ∙ ap (λ n. n - 1) same) nodes outs inns deals (no-nodes nodes none) h

    pub ended-count : length deals ≡ length idle
    ended-count = deals-count goes (length idle) (places 0 all ins (present above) (present below)) deals ended-dealt

    pub ended-few : AreFew deals
    ended-few = deals-few goes (length idle) (places 0 all ins (present above) (present below)) deals ended-dealt room.takers.1
        (let n = length-places 0 all ins (present above) (present below) in let f = room.few.0 in omega (arith, n, f, same))

    pub ended-fit : {S : Type 0} (g : Ghosts W S) → ((k : ℕ) (n : Node W) → slice_get all k ≡ Some n → IsFresh (shown g (children ins k) n)) → DealsFit g deals
    ended-fit g fresh =
        tree-fits g goes (length idle) all ins (present above) (present below) deals ended-dealt room.takers.1 (let s = room.some.0 in omega (arith, s, same))
        (subst (λ n. AreOpened (n - 1) (present above) (present below)) same room.ends.opened) forest fresh
