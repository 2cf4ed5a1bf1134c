-- The nodes of a tree are dealt one after the other, the last one first.
use Rattle.std.proofs.Common.{◌≡◌, ℕ, zero, suc, ◌-◌, ◌<◌, ◌≤◌, true, List, [], ◌∷◌, ◌++◌, length, Option, Some, None, refl, ap, subst, sym, ◌∙◌, append_assoc, append-nil, arith, map, replicate, length-append}
use Rattle.std.specs.Prelude.{is_some, slice_get, slice_index_or, slice_set, vec_len, option_to_list, IsSome}
use Rattle.std.specs.Option.{option_flatten}
use Rattle.std.proofs.lemmas.List.{map-set, get_or-map, length-map}
use Rattle.chunk_queue.specs.Ends.{InSeen, OutSeen}
use Rattle.network_theory.specs.Forest.{children, IsForest, count_in, count_all}
use Rattle.network_core.specs.declared.node.Node.{Node}
use Rattle.network_core.proofs.Opened.{some_at}
use Rattle.network_workers.specs.declared.seats.Deal.{Deal}
use Rattle.network_workers.specs.Dealt.{Place, Hand, hand_of, empty_hand, with_place, AreWorkers, worker_at, dealt, places}
use Rattle.network_workers.specs.Lists.{Each}
use Rattle.network_workers.specs.Rooms.{present, left, end_at, ends_at, hands_of, AreThere, OthersStay, HasSeat, HasRoom, HaveRoom, IsRoom}
use Rattle.network_workers.proofs.Counted.{dealt-length, seat-room, seats-few}
use Rattle.network_workers.proofs.Picked.{there-at, there-but_last, count-below, count-one, count-two, ends_at-picked}

-- some nodes are dealt, and these are left, with the ends above them and those above their children
pub record IsDealing {W : Type 0} (all : List (Node W)) (ins : List (List ℕ)) (above : List (Option OutSeen)) (below : List (Option InSeen)) (goes : List ℕ) (workers : ℕ)
    (nodes : List (Node W)) (outs : List (Option OutSeen)) (inns : List (Option InSeen)) (deals : List (Deal W)) : Type 0 where
  pub behind : List (Node W)
  pub nodes_are : all ≡ nodes ++ behind
  pub over : List (Option OutSeen)
  pub outs_are : above ≡ outs ++ over
  pub count : length outs ≡ length nodes
  pub hands : hands_of deals ≡ dealt goes workers (length nodes) (places (length nodes) behind ins (present above) (present below))
  pub there : (k c : ℕ) → k < length nodes → 0 < count_in c (children ins k) → end_at inns c ≡ slice_get (present below) c
  pub room : Each (λ i deal. HasRoom goes i (length (present inns)) deal) deals
  pub left : length (present inns) ≤ length (present below)

-- a worker was given a node
pub given-hands : {W : Type 0} (deals : List (Deal W)) (worker : ℕ) (x : Place W) (old new : Deal W) → worker < length deals → old ≡ slice_index_or deals worker old → hand_of new ≡ with_place x (hand_of old)
    → hands_of (slice_set deals worker new) ≡ slice_set (hands_of deals) worker (with_place x (slice_index_or (hands_of deals) worker empty_hand))
given-hands deals worker x old new inside here given =
    map-set hand_of deals worker new
    ∙ ap (slice_set (hands_of deals) worker) (given ∙ ap (with_place x) (ap hand_of here ∙ sym (get_or-map hand_of deals worker old empty_hand inside)))

-- workers without a node
idle-hands : {W : Type 0} (deals : List (Deal W)) → Each (λ i deal. (vec_len deal.seats ≡ 0) × (hand_of deal ≡ empty_hand)) deals → hands_of deals ≡ replicate (length deals) empty_hand
idle-hands [] h = refl
idle-hands (d ∷ ds) h = ap (λ x. x ∷ hands_of ds) (h 0 d (omega arith)).1 ∙ ap (λ xs. empty_hand ∷ xs) (idle-hands ds (λ k e l. h (suc k) e (omega (arith, l))))

module _ {W : Type 0} (all : List (Node W)) (ins : List (List ℕ)) (above : List (Option OutSeen)) (below : List (Option InSeen)) (deals : List (Deal W)) where
  pub dealing-nothing : (held : ℕ) (goes : List ℕ) → IsRoom held goes above below deals → length above ≡ length all → IsDealing all ins above below goes (length deals) all above below deals
  dealing-nothing held goes room same = record {
    behind = [];
    nodes_are = sym (append-nil all);
    over = [];
    outs_are = sym (append-nil above);
    count = same;
    hands = idle-hands deals room.idle;
    there = λ k c l n. ap (λ xs. end_at xs c) room.ends.inns_are ∙ there-at (present below) c;
    room = room.room;
    left = omega arith;
  }

pub length-places : {W : Type 0} (place : ℕ) (ns : List (Node W)) (ins : List (List ℕ)) (outs : List OutSeen) (inns : List InSeen) → length (places place ns ins outs inns) ≡ length ns
length-places place [] ins outs inns = refl
length-places place (n ∷ ns) ins outs inns = let h = length-places (suc place) ns ins outs inns in omega (arith, h)

last-of : {X : Type 0} (xs : List (Option X)) (y : Option X) (zs : List (Option X)) → slice_index_or ((xs ++ y ∷ []) ++ zs) (length xs) None ≡ y
last-of [] y zs = refl
last-of (x ∷ xs) y zs = last-of xs y zs

module _ {W : Type 0} (all : List (Node W)) (ins : List (List ℕ)) (above : List (Option OutSeen)) (below : List (Option InSeen)) (goes : List ℕ) (workers : ℕ)
    (forest : IsForest ins (length all - 1)) (outs_are : above ≡ map Some (present above) ++ None ∷ []) (inns_count : length (present below) ≡ length all - 1) where
  module _ (nodes : List (Node W)) (node : Node W) (outs : List (Option OutSeen)) (out : Option OutSeen) (inns : List (Option InSeen)) (deals : List (Deal W))
      (h : IsDealing all ins above below goes workers (nodes ++ node ∷ []) (outs ++ out ∷ []) inns deals) where
    abbrev place : ℕ
    place = length nodes

    abbrev below_it : List ℕ
    below_it = children ins place

    one-more : length (nodes ++ node ∷ []) ≡ suc place
    one-more = length-append nodes (node ∷ []) ∙ omega arith

    within : suc place ≤ length all
    within = let e = ap (λ (xs : List (Node W)). length xs) h.nodes_are in let a = length-append (nodes ++ node ∷ []) h.behind in let b = one-more in omega (arith, e, a, b)

    -- a child of the node is a node before it, and no child of another one
    pub child-below : (c : ℕ) → 0 < count_in c below_it → c < place
    child-below c l = count-below place c below_it (forest.below place) l

    child-once : (c : ℕ) → 0 < count_in c below_it → count_all c ins ≡ 1
    child-once c l = forest.once c (let m = child-below c l in let w = within in omega (arith, m, w))

    pub once : (c : ℕ) → count_in c below_it ≤ 1
    once c = by_count (count_in c below_it) refl
      where
        by_count : (n : ℕ) → count_in c below_it ≡ n → n ≤ 1
        by_count zero e = omega arith
        by_count (suc n) e = let o = child-once c (omega (arith, e)) in let l = count-one ins place c in omega (arith, e, o, l)

    pub there-now : (c : ℕ) → 0 < count_in c below_it → end_at inns c ≡ slice_get (present below) c
    there-now c l = h.there place c (let m = one-more in omega (arith, m)) l

    pub all-there : (c : ℕ) → 0 < count_in c below_it → is_some (end_at inns c) ≡ true
    all-there c l =
        let s = some_at (present below) c (let m = child-below c l in let w = within in omega (arith, m, w, inns_count)) in
        ap is_some (there-now c l ∙ s.1)

    pub out-is : out ≡ slice_get (present above) place
    out-is =
        let counts : length outs ≡ place = (let a = h.count in let b = one-more in let d = length-append outs (out ∷ []) in omega (arith, a, b, d)) in
        sym (last-of outs out h.over) ∙ ap (λ k. slice_index_or ((outs ++ out ∷ []) ++ h.over) k None) counts
        ∙ ap (λ xs. slice_index_or xs place None) (sym h.outs_are ∙ outs_are) ∙ there-but_last (present above) place

    pub hands-now : hands_of deals ≡ dealt goes workers (suc place) (places (suc place) h.behind ins (present above) (present below))
    hands-now = subst (λ p. hands_of deals ≡ dealt goes workers p (places p h.behind ins (present above) (present below))) one-more h.hands

    pub dealing-on : (inns' : List (Option InSeen)) (deals' : List (Deal W))
        → hands_of deals' ≡ slice_set (hands_of deals) (worker_at goes place) (with_place (record { stage = place; node = node; out = out; ins = ends_at inns below_it }) (slice_index_or (hands_of deals) (worker_at goes place) empty_hand))
        → ((c : ℕ) → count_in c below_it ≡ 0 → end_at inns' c ≡ end_at inns c)
        → Each (λ i deal. HasRoom goes i (length (present inns')) deal) deals' → length (present inns') ≤ length (present inns)
        → IsDealing all ins above below goes workers nodes outs inns' deals'
    dealing-on inns' deals' gave others room left = record {
      behind = node ∷ h.behind;
      nodes_are = h.nodes_are ∙ append_assoc nodes (node ∷ []) h.behind;
      over = out ∷ h.over;
      outs_are = h.outs_are ∙ append_assoc outs (out ∷ []) h.over;
      count = (let a = h.count in let b = one-more in let d = length-append outs (out ∷ []) in omega (arith, a, b, d));
      hands =
          gave
          ∙ ap (λ hs. slice_set hs (worker_at goes place) (with_place (record { stage = place; node = node; out = out; ins = ends_at inns below_it }) (slice_index_or hs (worker_at goes place) empty_hand))) hands-now
          ∙ ap (λ o. slice_set before (worker_at goes place) (with_place (record { stage = place; node = node; out = o; ins = ends_at inns below_it }) (slice_index_or before (worker_at goes place) empty_hand))) out-is
          ∙ ap (λ es. slice_set before (worker_at goes place) (with_place (record { stage = place; node = node; out = slice_get (present above) place; ins = es }) (slice_index_or before (worker_at goes place) empty_hand)))
          (ends_at-picked inns (present below) below_it there-now);
      there = λ k c l n. others c (elsewhere k c l n) ∙ h.there k c (let m = one-more in omega (arith, l, m)) n;
      room = room;
      left = (let a = h.left in omega (arith, a, left));
    }
      where
        before : List (Hand W)
        before = dealt goes workers (suc place) (places (suc place) h.behind ins (present above) (present below))

        elsewhere : (k c : ℕ) → k < place → 0 < count_in c (children ins k) → count_in c below_it ≡ 0
        elsewhere k c l n = by_count (count_in c below_it) refl
          where
            by_count : (m : ℕ) → count_in c below_it ≡ m → m ≡ 0
            by_count zero e = refl
            by_count (suc m) e = let o = child-once c (omega (arith, e)) in let two = count-two ins k place c l in absurd (omega (arith, e, o, two, n))

    -- a worker that the node goes to
    workers-are : length deals ≡ workers
    workers-are = sym (length-map deals hand_of) ∙ ap (λ (hs : List (Hand W)). length hs) hands-now ∙ dealt-length goes workers (suc place) (places (suc place) h.behind ins (present above) (present below))

    pub worker-inside : AreWorkers workers goes → worker_at goes place < length deals
    worker-inside those = subst (λ n. worker_at goes place < n) (sym workers-are) (those place)

    pub has-seat : AreWorkers workers goes → length all ≤ length goes → length all ≤ 64 → (d : Deal W) → HasSeat (slice_index_or deals (worker_at goes place) d)
    has-seat those enough few d =
        let xs = places (suc place) h.behind ins (present above) (present below) in
        let n = length-places (suc place) h.behind ins (present above) (present below) in
        let e = ap (λ (ys : List (Node W)). length ys) h.nodes_are in
        let a = length-append (nodes ++ node ∷ []) h.behind in
        let b = one-more in
        let room = (h.room (worker_at goes place) d (worker-inside those)).seats in
        let at : length (slice_index_or deals (worker_at goes place) d).seats.items ≡ length (slice_index_or (dealt goes workers (suc place) xs) (worker_at goes place) empty_hand).seats =
        ap (λ (hand : Hand W). length hand.seats)
        (sym (get_or-map hand_of deals (worker_at goes place) d empty_hand (worker-inside those)) ∙ ap (λ hs. slice_index_or hs (worker_at goes place) empty_hand) hands-now) in
        let here = seat-room goes workers those place (slice_index_or deals (worker_at goes place) d).seats.cap xs (omega (arith, n, e, a, b, enough)) room in
        let many = seats-few goes workers those (suc place) (worker_at goes place) xs (those place) in (
          omega (arith, at, here),
          omega (arith, at, many, n, e, a, b, few),
        )

  -- all nodes are dealt
  module _ (nodes : List (Node W)) (outs : List (Option OutSeen)) (inns : List (Option InSeen)) (deals : List (Deal W)) (none : nodes ≡ []) (h : IsDealing all ins above below goes workers nodes outs inns deals) where
    all-behind : h.behind ≡ all
    all-behind = sym (h.nodes_are ∙ ap (λ xs. xs ++ h.behind) none)

    pub all-dealt : hands_of deals ≡ dealt goes workers 0 (places 0 all ins (present above) (present below))
    all-dealt =
        h.hands ∙ ap (λ (xs : List (Node W)). dealt goes workers (length xs) (places (length xs) h.behind ins (present above) (present below))) none
        ∙ ap (λ xs. dealt goes workers 0 (places 0 xs ins (present above) (present below))) all-behind

-- the end that was the last of a list
pub last-out : {X : Type 0} (xs ys : List (Option X)) (popped : Option (Option X)) (out : Option X) → xs ≡ ys ++ option_to_list popped → IsSome popped → out ≡ option_flatten popped → xs ≡ ys ++ out ∷ []
last-out xs ys None out e s f = cc
last-out xs ys (Some x) out e s f = e ∙ ap (λ z. ys ++ z ∷ []) (sym f)

-- the next node is dealt
module _ {W : Type 0} (all : List (Node W)) (ins : List (List ℕ)) (held : ℕ) (goes : List ℕ) (above : List (Option OutSeen)) (below : List (Option InSeen)) (idle : List (Deal W)) (room : IsRoom held goes above below idle) (same : length above ≡ length all)
    (forest : IsForest ins (length all - 1)) where
  abbrev workers : ℕ
  workers = length idle

  below-count : length (present below) ≡ length all - 1
  below-count = room.ends.opened.count.1 ∙ ap (λ n. n - 1) same

  few : length all ≤ 64
  few = let f = room.few.0 in omega (arith, same, f)

  module _ (xs : List (Node W)) (os : List (Option OutSeen)) (inns : List (Option InSeen)) (deals : List (Deal W)) (h : IsDealing all ins above below goes workers xs os inns deals)
      (nodes : List (Node W)) (node : Node W) (p : xs ≡ nodes ++ node ∷ []) (outs : List (Option OutSeen)) (out : Option OutSeen) (q : os ≡ outs ++ out ∷ []) (place : ℕ) (at : place ≡ length nodes)
      (kids : List ℕ) (kids_are : kids ≡ children ins place) where
    state : IsDealing all ins above below goes workers (nodes ++ node ∷ []) (outs ++ out ∷ []) inns deals
    state = subst (λ ys. IsDealing all ins above below goes workers ys (outs ++ out ∷ []) inns deals) p (subst (λ ys. IsDealing all ins above below goes workers xs ys inns deals) q h)

    kids-at : children ins (length nodes) ≡ kids
    kids-at = ap (children ins) (sym at) ∙ sym kids_are

    pub next-worker : worker_at goes place < length deals
    next-worker = subst (λ i. worker_at goes i < length deals) (sym at) (worker-inside all ins above below goes workers forest room.ends.outs_are below-count nodes node outs out inns deals state room.takers.1)

    pub next-there : AreThere inns kids
    next-there = subst (AreThere inns) kids-at (λ c. (
      all-there all ins above below goes workers forest room.ends.outs_are below-count nodes node outs out inns deals state c,
      once all ins above below goes workers forest room.ends.outs_are below-count nodes node outs out inns deals state c,
    ))

    pub next-seat : (d : Deal W) → HasSeat (slice_index_or deals (worker_at goes place) d)
    next-seat d = subst (λ i. HasSeat (slice_index_or deals (worker_at goes i) d)) (sym at) (has-seat all ins above below goes workers forest room.ends.outs_are below-count nodes node outs out inns deals state room.takers.1 (let n = room.takers.0 in omega (arith, n, same)) few d)

    pub next-dealt : (inns' : List (Option InSeen)) (deals' : List (Deal W))
        → hands_of deals' ≡ slice_set (hands_of deals) (worker_at goes place) (with_place (record { stage = place; node = node; out = out; ins = ends_at inns kids }) (slice_index_or (hands_of deals) (worker_at goes place) empty_hand))
        → OthersStay kids inns inns' → HaveRoom goes (left inns') deals' → left inns' ≤ left inns → IsDealing all ins above below goes workers nodes outs inns' deals'
    next-dealt inns' deals' gave others has less =
        dealing-on all ins above below goes workers forest room.ends.outs_are below-count nodes node outs out inns deals state inns' deals'
        (subst (λ cs. hands_of deals' ≡ slice_set (hands_of deals) (worker_at goes (length nodes)) (with_place (record { stage = length nodes; node = node; out = out; ins = ends_at inns cs }) (slice_index_or (hands_of deals) (worker_at goes (length nodes)) empty_hand))) (sym kids-at)
        (subst (λ i. hands_of deals' ≡ slice_set (hands_of deals) (worker_at goes i) (with_place (record { stage = i; node = node; out = out; ins = ends_at inns kids }) (slice_index_or (hands_of deals) (worker_at goes i) empty_hand))) at gave))
        (subst (λ cs. OthersStay cs inns inns') (sym kids-at) others) has less
