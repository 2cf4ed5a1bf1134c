-- A node is taken back from its worker, and the queues to its children are settled.
use Rattle.std.proofs.Common.{◌≡◌, ◌≢◌, ℕ, suc, ◌+◌, ◌-◌, ◌<◌, ◌≤◌, ◌⊎◌, inl, inr, true, cond, List, [], ◌∷◌, ◌++◌, length, take, drop, Option, Some, None, is_none, get_or, set, refl, ap, subst, sym, ◌∙◌, arith, length-append, drop-cons}
use Rattle.std.specs.Prelude.{◌==◌, slice_get}
use Rattle.std.proofs.lemmas.Bool.Decides.{eqb_tells}
use Rattle.std.proofs.lemmas.Bool.{eq-eqb}
use Rattle.std.proofs.lemmas.List.{map-append, length-set, length_push, get_or_append_left, get_or_push, take_at, same_from_push, get_or-append-add}
use Rattle.std.proofs.lemmas.Option.{slice_get_within, get_or_from_slice_get}
use Rattle.cloud_points.specs.declared.point.Point.{Point}
use Rattle.cloud_points.specs.declared.item.Item as code
use Rattle.cloud_points.specs.declared.work.Work.{Ghosts}
use Rattle.cloud_points.specs.Bodies.{bodies, seen}
use Rattle.cloud_points.specs.Marks.{Mark, all_marks}
use Rattle.chunk_queue.specs.Ends.{OutSeen, ended}
use Rattle.network_theory.specs.Shape as shape
use Rattle.network_theory.specs.Forest.{children, count_all, IsForest}
use Rattle.network_core.specs.declared.node.Node.{Node}
use Rattle.network_core.specs.declared.stop.Stop.{Stop}
use Rattle.network_core.proofs.Opened.{some_at}
use Rattle.network_solo.specs.Trees.{AreFresh}
use Rattle.network_workers.specs.declared.seats.Seat.{Seat}
use Rattle.network_workers.specs.declared.seats.SeatIn.{SeatIn}
use Rattle.network_workers.specs.declared.seats.Deal.{Deal}
use Rattle.network_workers.specs.Dealt.{Place, Hand, hand_of, empty_hand, seat_of, entries, with_place, AreWorkers, worker_at, dealt, places, picked, AreOpened, HandsCarry}
use Rattle.network_workers.specs.Ends.{end_of, got_on, got_of, sent_on, EntryGrew, InGrew, OutGrew}
use Rattle.network_workers.specs.Gathered.{NodeCarries, Carriage, AreParts, Opened, IsKept, AreTakenBack, AreOfOne, IsFirstPart, IsSettled, EdgesFrom, without, AreOnce}
use Rattle.network_workers.specs.Seats.{node_of, IsFit, SeatsCarry, DealFits}
use Rattle.network_workers.proofs.Carrying.{fit-still}
use Rattle.network_workers.proofs.Children.{counted-more, IsOnlyChild, only-child}
use Rattle.network_workers.proofs.Counted.{dealt-length}
use Rattle.network_workers.proofs.Dealing.{TakenBack, append-none, entries-other, grew-none}
use Rattle.network_workers.proofs.EndsOf.{all_marks-append, end-grew, ne-eqb}
use Rattle.network_workers.proofs.AtStart.{one-grew, root-there, unread-inns}
use Rattle.network_workers.proofs.Fits.{append-second, unsent-at}
use Rattle.network_workers.proofs.HandsBack.{each-at, each-from, picked-unread, entries-unread, picked-length, picked-at, grew-length, grew-at, end-here, end-past, dealt-own, last-back, rest-back}
use Rattle.network_workers.proofs.Joining.{all-closed, got_marks, seat-joins}
use Rattle.network_workers.proofs.Lists.{each-one}
use Rattle.network_workers.proofs.LastEnds.{without-other, length-without}
use Rattle.network_workers.proofs.OverBack.{get-before, get-behind, one_thing, over-back}

bodies-append : (a b : List code.Item) → bodies (a ++ b) ≡ bodies a ++ bodies b
bodies-append a b = map-append (λ i. seen i.body) a b

module _ {W S : Type 0} (g : Ghosts W S) (stop : Stop) (start : Opened W) (ins : List (List ℕ)) (goes : List ℕ) (root place : ℕ) (opened : AreOpened root start.outs start.inns) (size : length start.nodes ≡ root + 1)
    (fresh : AreFresh g ins start.nodes) (forest : IsForest ins root) (deals : List (Deal W)) (workers : AreWorkers (length deals) goes) (nodes : List (Node W)) (outs : List (Option OutSeen))
    (h : AreTakenBack g stop start ins goes place deals nodes outs) (n : Node W) (node : slice_get start.nodes place ≡ Some n) (d : Deal W) where
  abbrev cs : List ℕ
  cs = children ins place

  abbrev w : ℕ
  w = worker_at goes place

  abbrev x : Place W
  x = record { stage = place; node = n; out = slice_get start.outs place; ins = picked start.inns (children ins place) }

  abbrev hands : List (Hand W)
  hands = dealt goes (length deals) (suc place) (places (suc place) (drop (suc place) start.nodes) ins start.outs start.inns)

  abbrev hand : Hand W
  hand = get_or hands w empty_hand

  abbrev deal : Deal W
  deal = get_or deals w d

  within : place ≤ root
  within = let l = slice_get_within start.nodes place n node in omega (arith, l, size)

  rest-is : drop place start.nodes ≡ n ∷ drop (suc place) start.nodes
  rest-is =
      drop-cons start.nodes place n (slice_get_within start.nodes place n node)
      ∙ ap (λ (z : Node W). z ∷ drop (suc place) start.nodes) (get_or_from_slice_get start.nodes place n n node)

  carried-hands : HandsCarry g (set hands w (with_place x hand)) deals
  carried-hands = subst (λ ns. HandsCarry g (dealt goes (length deals) place (places place ns ins start.outs start.inns)) deals) rest-is h.hands

  in-hands : w < length hands
  in-hands = let l = dealt-length goes (length deals) (suc place) (places (suc place) (drop (suc place) start.nodes) ins start.outs start.inns) in let m = workers place in omega (arith, l, m)

  in-deals : w < length deals
  in-deals = workers place

  back : TakenBack g x hand (hand_of deal)
  back = last-back g hands w x deals in-hands carried-hands d

  -- the children and the ends above them
  child-at : (k : ℕ) → k < length cs → IsOnlyChild ins root place (get_or cs k 0)
  child-at = only-child ins root place forest within

  children-in : shape.Each (λ c. c < length start.inns) cs
  children-in = each-from (λ c. c < length start.inns) cs (λ k l. let b = (child-at k l).inside in let e = opened.count.1 in omega (arith, b, e))

  count-ins : length (picked start.inns cs) ≡ length cs
  count-ins = picked-length start.inns cs children-in

  count-ends : length back.ends ≡ length cs
  count-ends = grew-length (length hand.seats) 0 (picked start.inns cs) back.ends back.grew ∙ count-ins

  first-is : length deal.ins.items - length cs ≡ length back.rest.ins
  first-is =
      let all : length deal.ins.items ≡ length (back.rest.ins ++ back.ends) = ap (λ (ys : List SeatIn). length ys) back.ins_are in
      let two = length-append back.rest.ins back.ends in let c = count-ends in omega (arith, all, two, c)

  pub room : length cs ≤ length deal.ins.items
  room =
      let all : length deal.ins.items ≡ length (back.rest.ins ++ back.ends) = ap (λ (ys : List SeatIn). length ys) back.ins_are in
      let two = length-append back.rest.ins back.ends in let c = count-ends in omega (arith, all, two, c)

  pub some-seat : 0 < length deal.seats.items
  some-seat =
      let all : length deal.seats.items ≡ length (back.rest.seats ++ back.seat ∷ []) = ap (λ (ys : List (Seat W)). length ys) back.seats_are in
      let two = length_push back.rest.seats back.seat in omega (arith, all, two)

  end-is : (k : ℕ) (e : SeatIn) → get_or deal.ins.items (length deal.ins.items - length cs + k) e ≡ get_or back.ends k e
  end-is k e =
      ap (λ i. get_or deal.ins.items (i + k) e) first-is ∙ ap (λ ys. get_or ys (length back.rest.ins + k) e) back.ins_are
      ∙ get_or-append-add back.rest.ins back.ends k e

  own-hand : (k : ℕ) → end_of hand.ins (length hand.seats) k ≡ None
  own-hand k = dealt-own goes (length deals) (suc place) (places (suc place) (drop (suc place) start.nodes) ins start.outs start.inns) workers w empty_hand in-deals (length hand.seats) k (omega arith)

  own-front : (k : ℕ) → end_of back.rest.ins (length hand.seats) k ≡ None
  own-front k = grew-none (end_of hand.ins (length hand.seats) k) (end_of back.rest.ins (length hand.seats) k) (end-grew hand.ins back.rest.ins (length hand.seats) k back.others.ends) (own-hand k)

  end-of-input : (k : ℕ) (e : SeatIn) → k < length cs → end_of deal.ins.items (length hand.seats) k ≡ Some (get_or back.ends k e).end
  end-of-input k e l =
      ap (λ ys. end_of ys (length hand.seats) k) back.ins_are ∙ append-second back.rest.ins back.ends (length hand.seats) k (own-front k)
      ∙ ap (end_of back.ends (length hand.seats)) {x = k} {y = 0 + k} (omega arith)
      ∙ end-here (length hand.seats) 0 (picked start.inns cs) back.ends back.grew k e (let c = count-ins in omega (arith, l, c))

  end-of-past : (k : ℕ) → length cs ≤ k → end_of deal.ins.items (length hand.seats) k ≡ None
  end-of-past k l =
      ap (λ ys. end_of ys (length hand.seats) k) back.ins_are ∙ append-second back.rest.ins back.ends (length hand.seats) k (own-front k)
      ∙ ap (end_of back.ends (length hand.seats)) {x = k} {y = 0 + k} (omega arith)
      ∙ end-past (length hand.seats) 0 (picked start.inns cs) back.ends back.grew k (let c = count-ins in omega (arith, l, c))

  -- the seat
  count-rest : length back.rest.seats ≡ length hand.seats
  count-rest = back.others.seats.len

  seat-is : (s : Seat W) → get_or deal.seats.items (length hand.seats) s ≡ back.seat
  seat-is s = ap (λ ys. get_or ys (length hand.seats) s) back.seats_are ∙ get_or_push back.rest.seats back.seat s (length hand.seats) count-rest

  in-seats : length hand.seats < length deal.seats.items
  in-seats =
      let all : length deal.seats.items ≡ length (back.rest.seats ++ back.seat ∷ []) = ap (λ (ys : List (Seat W)). length ys) back.seats_are in
      let two = length_push back.rest.seats back.seat in let c = count-rest in omega (arith, all, two, c)

  seat-fit : IsFit g deal.ins.items (length hand.seats) back.seat
  seat-fit = subst (λ (s : Seat W). IsFit g deal.ins.items (length hand.seats) s) (seat-is back.seat) (h.fit w d in-deals (length hand.seats) back.seat in-seats)

  seat-inputs : (node_of back.seat).inputs ≡ length cs
  seat-inputs = back.here.calm.inputs ∙ (fresh place n node).inputs

  -- a done node got an End on each of its inputs
  ended-here : (node_of back.seat).done ≡ true → (k : ℕ) → k < length cs → ended (got_of deal.ins.items (length hand.seats) k) ≡ true
  ended-here done k l = all-closed g deal.ins.items (length hand.seats) back.seat seat-fit done k (let i = seat-inputs in omega (arith, l, i))

  kept-child : (k : ℕ) → k < length cs → IsKept (slice_get start.outs (get_or cs k 0)) (get_or outs (get_or cs k 0) None) (h.carriage.sent (get_or cs k 0))
  kept-child k l = h.kept (get_or cs k 0) (child-at k l).below (child-at k l).none

  pub one : EdgesFrom AreOfOne outs cs (length deal.ins.items - length cs) deal.ins.items
  one k e l =
      let b = (child-at k l).inside in
      let o = some_at start.outs (get_or cs k 0) (let z = opened.count.0 in omega (arith, b, z)) in
      let i = some_at start.inns (get_or cs k 0) (let z = opened.count.1 in omega (arith, b, z)) in
      let first : get_or (picked start.inns cs) k i.0 ≡ i.0 = picked-at start.inns cs children-in k i.0 l ∙ get_or_from_slice_get start.inns (get_or cs k 0) i.0 i.0 i.1 in
      let grew : EntryGrew (record { seat = length hand.seats; input = 0 + k; end = get_or (picked start.inns cs) k i.0 }) (get_or back.ends k e) =
      grew-at (length hand.seats) 0 (picked start.inns cs) back.ends back.grew k i.0 e (let c = count-ins in omega (arith, l, c)) in
      subst (λ (y : SeatIn). AreOfOne (get_or outs (get_or cs k 0) None) y.end) (sym (end-is k e))
      (one-grew o.0 i.0 (get_or outs (get_or cs k 0) None) (get_or back.ends k e).end
      (subst (λ z. OutGrew z (get_or outs (get_or cs k 0) None)) o.1 (kept-child k l).grew)
      (subst (λ z. InGrew z (get_or back.ends k e).end) first grew.end)
      (opened.same (get_or cs k 0) o.0 i.0 o.1 i.1))

  pub once : AreOnce cs
  once k l = (child-at k l).once

  -- at the start nothing was sent or got
  unread : (k : ℕ) → got_of (hand.ins ++ entries (length hand.seats) 0 x.ins) (length hand.seats) k ≡ []
  unread k =
      ap got_on (append-second hand.ins (entries (length hand.seats) 0 x.ins) (length hand.seats) k (own-hand k))
      ∙ entries-unread (length hand.seats) 0 x.ins (picked-unread start.inns cs (unread-inns root start.outs start.inns opened)) (length hand.seats) k

  unsent : sent_on x.out ≡ []
  unsent = unsent-at root start.outs start.inns opened place

  root-is : is_none x.out ≡ (place + 1 == length start.nodes)
  root-is = root-there root start.outs start.inns opened place (length start.nodes) within size

  -- this place is back, with the deal that is left
  module _ (y : Deal W) (seat : Seat W) (seats : deal.seats.items ≡ y.seats.items ++ seat ∷ []) (ends : y.ins.items ≡ take (length deal.ins.items - length cs) deal.ins.items)
      (settled : EdgesFrom IsSettled outs cs (length deal.ins.items - length cs) deal.ins.items) where
    same-seats : (y.seats.items ≡ back.rest.seats) × (seat ≡ back.seat)
    same-seats = same_from_push y.seats.items back.rest.seats seat back.seat (sym seats ∙ back.seats_are)

    same-ins : y.ins.items ≡ back.rest.ins
    same-ins = ends ∙ ap (take (length deal.ins.items - length cs)) back.ins_are ∙ take_at back.rest.ins back.ends (length deal.ins.items - length cs) (sym first-is)

    last-node : slice_get (nodes ++ seat.node ∷ []) place ≡ Some seat.node
    last-node = ap (slice_get (nodes ++ seat.node ∷ [])) (sym h.counts.0) ∙ get-behind nodes seat.node

    child-below : (k i c : ℕ) → slice_get (children ins k) i ≡ Some c → c < k
    child-below k i c e =
        subst (λ z. z < k) (get_or_from_slice_get (children ins k) i c 0 e)
        (each-at (λ j. j < k) (children ins k) i (forest.below k) (slice_get_within (children ins k) i c e))

    -- what the node got of an input is a first part of what the child there sent
    at-input : (i : ℕ) → i < length cs → IsFirstPart (got_of deal.ins.items (length hand.seats) i) (sent_on (get_or outs (get_or cs i 0) None))
    at-input i l =
        let e = some_at back.ends i (let n = count-ends in omega (arith, l, n)) in
        subst (λ got. IsFirstPart got (sent_on (get_or outs (get_or cs i 0) None)))
        (ap (λ (z : SeatIn). z.end.got) (end-is i e.0) ∙ ap got_on (sym (end-of-input i e.0 l))) (settled i e.0 l)

    abbrev left_by : (i : ℕ) (o : Option ℕ) → slice_get cs i ≡ o → List (Mark Point)
    left_by i None e = []
    left_by i (Some c) e = all_marks (bodies (at-input i (slice_get_within cs i c e)).left)

    abbrev left_here : ℕ → List (Mark Point)
    left_here i = left_by i (slice_get cs i) refl

    abbrev took_here : ℕ → List (Mark Point)
    took_here i = got_marks deal.ins.items (length hand.seats) i

    part-here : (i c : ℕ) → slice_get cs i ≡ Some c → took_here i ++ left_here i ≡ h.carriage.sent c
    part-here i c f = by_child (slice_get cs i) refl f
      where
        by_child : (o : Option ℕ) (e : slice_get cs i ≡ o) → o ≡ Some c → took_here i ++ left_by i o e ≡ h.carriage.sent c
        by_child None e q = cc
        by_child (Some d) e q =
            let l = slice_get_within cs i d e in
            let p = at-input i l in
            let same : get_or cs i 0 ≡ d = get_or_from_slice_get cs i d 0 e in
            sym (all_marks-append (bodies (got_of deal.ins.items (length hand.seats) i)) (bodies p.left))
            ∙ ap all_marks (sym (bodies-append (got_of deal.ins.items (length hand.seats) i) p.left)) ∙ ap (λ xs. all_marks (bodies xs)) p.part
            ∙ sym (kept-child i l).all ∙ ap h.carriage.sent (same ∙ one_thing q)

    whole-here : seat.node.done ≡ true → (i : ℕ) → left_here i ≡ []
    whole-here done i = by_child (slice_get cs i) refl
      where
        by_child : (o : Option ℕ) (e : slice_get cs i ≡ o) → left_by i o e ≡ []
        by_child None e = refl
        by_child (Some c) e =
            let l = slice_get_within cs i c e in
            ap (λ xs. all_marks (bodies xs)) ((at-input i l).whole (ended-here (ap (λ (s : Seat W). s.node.done) (sym same-seats.1) ∙ done) i l))

    abbrev carriage_now : Carriage
    carriage_now = record {
      sent = λ k. cond (k == place) (all_marks (bodies (sent_on seat.out))) (h.carriage.sent k);
      took = λ k. cond (k == place) took_here (h.carriage.took k);
      left = λ k. cond (k == place) left_here (h.carriage.left k);
    }

    at-once : {X : Type 0} (a b : X) → cond (place == place) a b ≡ a
    at-once a b = ap (λ z. cond z a b) (eq-eqb place place refl)

    as-before : {X : Type 0} (a b : X) (k : ℕ) → k < place → cond (k == place) a b ≡ b
    as-before a b k l = ap (λ z. cond z a b) (ne-eqb k place (λ e. absurd (omega (arith, l, e))))

    sent-before : (k : ℕ) → k < place → carriage_now.sent k ≡ h.carriage.sent k
    sent-before k l = as-before (all_marks (bodies (sent_on seat.out))) (h.carriage.sent k) k l

    took-before : (k : ℕ) → k < place → carriage_now.took k ≡ h.carriage.took k
    took-before k l = as-before took_here (h.carriage.took k) k l

    left-before : (k : ℕ) → k < place → carriage_now.left k ≡ h.carriage.left k
    left-before k l = as-before left_here (h.carriage.left k) k l

    sent-here : carriage_now.sent place ≡ all_marks (bodies (sent_on seat.out))
    sent-here = at-once (all_marks (bodies (sent_on seat.out))) (h.carriage.sent place)

    below-now : (k : ℕ) → k < suc place → (k ≡ place) ⊎ (k < place)
    below-now k l = elim (eqb_tells k place) [ inl p ↦ inl p.1 | inr p ↦ inr (let ne : k ≢ place = p.1 in omega (arith, l, ne)) ]

    parts-next : AreParts carriage_now ins (suc place)
    parts-next k i c l e = elim (below-now k l) [ inl p ↦ here p | inr p ↦ before p ]
      where
        here : k ≡ place → carriage_now.took k i ++ carriage_now.left k i ≡ carriage_now.sent c
        here p =
            let f : slice_get cs i ≡ Some c = ap (λ j. slice_get (children ins j) i) (sym p) ∙ e in
            ap (λ j. carriage_now.took j i ++ carriage_now.left j i) p
            ∙ ap (λ z. z i ++ carriage_now.left place i) (at-once took_here (h.carriage.took place)) ∙ ap (λ z. took_here i ++ z i) (at-once left_here (h.carriage.left place))
            ∙ part-here i c f ∙ sym (sent-before c (child-below place i c f))

        before : k < place → carriage_now.took k i ++ carriage_now.left k i ≡ carriage_now.sent c
        before p =
            ap (λ z. z i ++ carriage_now.left k i) (took-before k p) ∙ ap (λ z. h.carriage.took k i ++ z i) (left-before k p)
            ∙ h.parts k i c p e ∙ sym (sent-before c (let b = child-below k i c e in omega (arith, b, p)))

    carried-here : NodeCarries g (place + 1 == length start.nodes) n seat.node (carriage_now.took place) (carriage_now.sent place)
    carried-here =
        let c : NodeCarries g (is_none x.out) n back.seat.node took_here (all_marks (bodies (sent_on back.seat.out))) =
        seat-joins g (hand.ins ++ entries (length hand.seats) 0 x.ins) deal.ins.items (length hand.seats) (seat_of x) back.seat back.here seat-fit unread unsent in
        subst (λ r. NodeCarries g r n seat.node (carriage_now.took place) (carriage_now.sent place)) root-is
        (subst (λ t. NodeCarries g (is_none x.out) n seat.node t (carriage_now.sent place)) (sym (at-once took_here (h.carriage.took place)))
        (subst (λ s. NodeCarries g (is_none x.out) n seat.node took_here s) (sym sent-here)
        (subst (λ (s : Seat W). NodeCarries g (is_none x.out) n s.node took_here (all_marks (bodies (sent_on s.out)))) (sym same-seats.1) c)))

    -- a node that is back is this one or an earlier one
    which-back : (k : ℕ) (b : Node W) → slice_get (nodes ++ seat.node ∷ []) k ≡ Some b → ((k ≡ place) × (seat.node ≡ b)) ⊎ ((k < place) × (slice_get nodes k ≡ Some b))
    which-back k b f = elim (below-now k (let i = slice_get_within (nodes ++ seat.node ∷ []) k b f in let m = length_push nodes seat.node in let c = h.counts.0 in omega (arith, i, m, c))) [
      | inl p ↦ inl (p, one_thing (sym last-node ∙ ap (slice_get (nodes ++ seat.node ∷ [])) (sym p) ∙ f))
      | inr p ↦ inr (p, sym (get-before nodes seat.node k (let c = h.counts.0 in omega (arith, p, c))) ∙ f)
    ]

    carried-next : (k : ℕ) (a b : Node W) → slice_get start.nodes k ≡ Some a → slice_get (nodes ++ seat.node ∷ []) k ≡ Some b
        → NodeCarries g (k + 1 == length start.nodes) a b (carriage_now.took k) (carriage_now.sent k)
    carried-next k a b e f = elim (which-back k b f) [ inl p ↦ at-place p.0 p.1 | inr p ↦ before p.0 p.1 ]
      where
        at-place : k ≡ place → seat.node ≡ b → NodeCarries g (k + 1 == length start.nodes) a b (carriage_now.took k) (carriage_now.sent k)
        at-place p new =
            let old : n ≡ a = one_thing (sym node ∙ ap (slice_get start.nodes) (sym p) ∙ e) in
            subst (λ j. NodeCarries g (j + 1 == length start.nodes) a b (carriage_now.took j) (carriage_now.sent j)) (sym p)
            (subst (λ z. NodeCarries g (place + 1 == length start.nodes) z b (carriage_now.took place) (carriage_now.sent place)) old
            (subst (λ z. NodeCarries g (place + 1 == length start.nodes) n z (carriage_now.took place) (carriage_now.sent place)) new carried-here))

        before : k < place → slice_get nodes k ≡ Some b → NodeCarries g (k + 1 == length start.nodes) a b (carriage_now.took k) (carriage_now.sent k)
        before l f' =
            subst (λ t. NodeCarries g (k + 1 == length start.nodes) a b t (carriage_now.sent k)) (sym (took-before k l))
            (subst (λ s. NodeCarries g (k + 1 == length start.nodes) a b (h.carriage.took k) s) (sym (sent-before k l)) (h.carried k a b e f'))

    whole-next : (k : ℕ) (m : Node W) → slice_get (nodes ++ seat.node ∷ []) k ≡ Some m → m.done ≡ true → (i : ℕ) → carriage_now.left k i ≡ []
    whole-next k m f done i = elim (which-back k m f) [
      | inl p ↦ ap (λ j. carriage_now.left j i) p.0 ∙ ap (λ l. l i) (at-once left_here (h.carriage.left place)) ∙ whole-here (ap (λ (z : Node W). z.done) p.1 ∙ done) i
      | inr p ↦ ap (λ l. l i) (left-before k p.0) ∙ h.whole k m p.1 done i
    ]

    kept-next : (k : ℕ) → k < suc place → count_all k (take (suc place) ins) ≡ 0 → IsKept (slice_get start.outs k) (get_or (without outs cs ++ seat.out ∷ []) k None) (carriage_now.sent k)
    kept-next k l none = elim (eqb_tells k place) [ inl p ↦ at-place p.1 | inr p ↦ before p.1 ]
      where
        size-left : length (without outs cs) ≡ place
        size-left = length-without outs cs ∙ h.counts.1

        at-place : k ≡ place → IsKept (slice_get start.outs k) (get_or (without outs cs ++ seat.out ∷ []) k None) (carriage_now.sent k)
        at-place p =
            let last : get_or (without outs cs ++ seat.out ∷ []) place None ≡ seat.out = get_or_push (without outs cs) seat.out None place size-left in
            subst (λ j. IsKept (slice_get start.outs j) (get_or (without outs cs ++ seat.out ∷ []) j None) (carriage_now.sent j)) (sym p)
            (record {
              grew = subst (OutGrew (slice_get start.outs place)) (sym last) (subst (λ (s : Seat W). OutGrew (slice_get start.outs place) s.out) (sym same-seats.1) back.here.out);
              all = sent-here ∙ ap (λ o. all_marks (bodies (sent_on o))) (sym last);
            })

        before : k ≢ place → IsKept (slice_get start.outs k) (get_or (without outs cs ++ seat.out ∷ []) k None) (carriage_now.sent k)
        before p =
            let b : k < place = (let ne : k ≢ place = p in omega (arith, l, ne)) in
            let more = counted-more k ins place (let s = forest.nodes in let i = within in omega (arith, s, i)) in
            let old = h.kept k b (omega (arith, none, more)) in
            let still : get_or (without outs cs ++ seat.out ∷ []) k None ≡ get_or outs k None =
            get_or_append_left (without outs cs) (seat.out ∷ []) None k (let s = size-left in omega (arith, b, s)) ∙ without-other outs cs k (omega (arith, none, more)) in
            record {
              grew = subst (OutGrew (slice_get start.outs k)) (sym still) old.grew;
              all = sent-before k b ∙ old.all ∙ ap (λ o. all_marks (bodies (sent_on o))) (sym still);
            }

    -- the seats that are left
    seats-left : (k : ℕ) (e : Seat W) → k < length y.seats.items → get_or deal.seats.items k e ≡ get_or y.seats.items k e
    seats-left k e l = ap (λ ys. get_or ys k e) seats ∙ get_or_append_left y.seats.items (seat ∷ []) e k l

    more-seats : (k : ℕ) → k < length y.seats.items → (k < length deal.seats.items) × (k < length hand.seats)
    more-seats k l =
        let all : length deal.seats.items ≡ length (y.seats.items ++ seat ∷ []) = ap (λ (ys : List (Seat W)). length ys) seats in
        let two = length_push y.seats.items seat in
        let rest : length y.seats.items ≡ length back.rest.seats = ap (λ (ys : List (Seat W)). length ys) same-seats.0 in
        let c = count-rest in (omega (arith, l, all, two), omega (arith, l, rest, c))

    ends-left : (s k : ℕ) → s < length hand.seats → end_of y.ins.items s k ≡ end_of deal.ins.items s k
    ends-left s k l =
        let none : end_of back.ends s k ≡ None = grew-none (end_of (entries (length hand.seats) 0 x.ins) s k) (end_of back.ends s k)
        (end-grew (entries (length hand.seats) 0 x.ins) back.ends s k back.grew) (entries-other (length hand.seats) 0 s k x.ins (λ e. absurd (omega (arith, l, e)))) in
        ap (λ ys. end_of ys s k) same-ins ∙ sym (ap (λ ys. end_of ys s k) back.ins_are ∙ append-none back.rest.ins back.ends s k none)

    fit-left : DealFits g y
    fit-left k e l =
        let m = more-seats k l in
        subst (λ (s : Seat W). IsFit g y.ins.items k s) (seats-left k e l)
        (fit-still g deal.ins.items y.ins.items k (get_or deal.seats.items k e) (λ i. ends-left k i m.1) (h.fit w d in-deals k e m.0))

    hands-left : HandsCarry g (dealt goes (length (set deals w y)) (suc place) (places (suc place) (drop (suc place) start.nodes) ins start.outs start.inns)) (set deals w y)
    hands-left =
        subst (λ l. HandsCarry g (dealt goes l (suc place) (places (suc place) (drop (suc place) start.nodes) ins start.outs start.inns)) (set deals w y)) (sym (length-set deals w y))
        (rest-back g hands w x deals in-hands carried-hands d y
        (subst (λ es. SeatsCarry g hand.ins es hand.seats y.seats.items) (sym same-ins) (subst (λ ss. SeatsCarry g hand.ins back.rest.ins hand.seats ss) (sym same-seats.0) back.others)))

    pub one-more-back : AreTakenBack g stop start ins goes (suc place) (set deals w y) (nodes ++ seat.node ∷ []) (without outs cs ++ seat.out ∷ [])
    one-more-back = record {
      hands = hands-left;
      fit = each-one (λ j e. DealFits g e) deals w y fit-left (λ j e l ne. h.fit j e l);
      over = over-back g stop deals w y d in-deals seat seats nodes h.over;
      counts = (
        (let a = length_push nodes seat.node in let b = h.counts.0 in omega (arith, a, b)),
        (let a = length_push (without outs cs) seat.out in let b = h.counts.1 in let c = length-without outs cs in omega (arith, a, b, c)),
      );
      carriage = carriage_now;
      parts = parts-next;
      carried = carried-next;
      whole = whole-next;
      kept = kept-next;
    }
