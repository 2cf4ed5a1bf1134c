-- What was dealt may take turns.
use Rattle.std.proofs.Common.{◌≡◌, ℕ, zero, suc, ◌+◌, ◌-◌, ◌^◌, ◌<◌, ◌≤◌, Bool, true, false, cond, List, [], ◌∷◌, ◌++◌, length, Option, Some, None, refl, ap, subst, sym, ◌∙◌, arith, inl, inr, map, length-append}
use Rattle.std.specs.Prelude.{is_some, slice_get, slice_index_or}
use Rattle.std.proofs.lemmas.List.{length-replicate, get_or-replicate}
use Rattle.std.proofs.lemmas.Option.{slice_get_within}
use Rattle.std.proofs.lemmas.Bool.Decides.{eqb_tells}
use Rattle.cloud_points.specs.declared.work.Work.{Ghosts}
use Rattle.chunk_queue.specs.Ends.{InSeen, OutSeen}
use Rattle.network_theory.specs.Forest.{children, IsForest}
use Rattle.network_theory.specs.Opening.{IsFresh}
use Rattle.network_theory.specs.Shape as shape
use Rattle.network_core.specs.declared.node.Node.{Node}
use Rattle.network_core.specs.Shown.{shown}
use Rattle.network_core.proofs.Opened.{some_at}
use Rattle.network_workers.specs.declared.seats.Seat.{Seat}
use Rattle.network_workers.specs.declared.seats.SeatIn.{SeatIn}
use Rattle.network_workers.specs.declared.seats.Deal.{Deal}
use Rattle.network_workers.specs.Dealt.{Place, Hand, AreOpened, seat_of, hand_of, entries, empty_hand, with_place, AreWorkers, worker_at, dealt, add_some, picked, places}
use Rattle.network_workers.specs.Ends.{is_at, end_of, got_on, sent_on}
use Rattle.network_workers.specs.Lists.{Each}
use Rattle.network_workers.specs.Rooms.{hands_of}
use Rattle.network_workers.specs.Seats.{node_of, IsFit, AreFit, DealsFit, AreFew}
use Rattle.network_workers.proofs.Carrying.{fit-still}
use Rattle.network_workers.proofs.Counted.{dealt-length, seats-few}
use Rattle.network_workers.proofs.Dealing.{get-front, get-last, entries-other, append-none, fresh-fit}
use Rattle.network_workers.proofs.EndsOf.{is_at-here, is_at-other}
use Rattle.network_workers.proofs.Lists.{each-one, any_default}

-- the ends of a seat that is not among the first ones
pub append-second : (xs ys : List SeatIn) (s k : ℕ) → end_of xs s k ≡ None → end_of (xs ++ ys) s k ≡ end_of ys s k
append-second [] ys s k h = refl
append-second (x ∷ xs) ys s k h = by_place (append-second xs ys s k) (is_at x s k) refl
  where
    by_place : (end_of xs s k ≡ None → end_of (xs ++ ys) s k ≡ end_of ys s k) → (b : Bool) → is_at x s k ≡ b → end_of ((x ∷ xs) ++ ys) s k ≡ end_of ys s k
    by_place ih true e = let m : cond true (Some x.end) (end_of xs s k) ≡ None = subst (λ b. cond b (Some x.end) (end_of xs s k) ≡ None) e h in cc
    by_place ih false e =
        ap (λ b. cond b (Some x.end) (end_of (xs ++ ys) s k)) e
        ∙ ih (subst (λ b. cond b (Some x.end) (end_of xs s k) ≡ None) e h)

entries-here : (seat input j : ℕ) (es : List InSeen) (k : ℕ) → j ≡ input + k → end_of (entries seat input es) seat j ≡ slice_get es k
entries-here seat input j [] k h = refl
entries-here seat input j (e ∷ es) zero h =
    ap (λ b. cond b (Some e) (end_of (entries seat (suc input) es) seat j)) (is_at-here (record { seat = seat; input = input; end = e }) seat j refl (sym (h ∙ omega arith)))
entries-here seat input j (e ∷ es) (suc k) h =
    ap (λ b. cond b (Some e) (end_of (entries seat (suc input) es) seat j))
    (is_at-other (record { seat = seat; input = input; end = e }) seat input seat j refl refl (inr (λ z. omega (arith, h, z))))
    ∙ entries-here seat (suc input) j es k (omega (arith, h))

-- the ends above the children of a node
picked-some : (inns : List InSeen) (cs : List ℕ) (bound : ℕ) → shape.Each (λ j. j < bound) cs → bound ≤ length inns → (k : ℕ) → k < length cs → is_some (slice_get (picked inns cs) k) ≡ true
picked-some inns [] bound h b k l = absurd (omega (arith, l))
picked-some inns (c ∷ cs) bound h b k l =
    let s = some_at inns c (let m = h.0 in omega (arith, m, b)) in
    ap (λ x. is_some (slice_get (add_some x (picked inns cs)) k)) s.1 ∙ by_place s.0 (picked-some inns cs bound h.1 b) k l
  where
    by_place : (e : InSeen) → ((k : ℕ) → k < length cs → is_some (slice_get (picked inns cs) k) ≡ true) → (k : ℕ) → k < length (c ∷ cs) → is_some (slice_get (e ∷ picked inns cs) k) ≡ true
    by_place e ih zero l = refl
    by_place e ih (suc k) l = ih k (omega (arith, l))

picked-unread : (inns : List InSeen) → ((c : ℕ) → got_on (slice_get inns c) ≡ []) → (cs : List ℕ) (k : ℕ) → got_on (slice_get (picked inns cs) k) ≡ []
picked-unread inns h [] k = refl
picked-unread inns h (c ∷ cs) k = by_end (picked-unread inns h cs) (slice_get inns c) (h c) k
  where
    by_end : ((k : ℕ) → got_on (slice_get (picked inns cs) k) ≡ []) → (x : Option InSeen) → got_on x ≡ [] → (k : ℕ) → got_on (slice_get (add_some x (picked inns cs)) k) ≡ []
    by_end ih None e k = ih k
    by_end ih (Some e) f zero = f
    by_end ih (Some e) f (suc k) = ih k

module _ (root : ℕ) (outs : List OutSeen) (inns : List InSeen) (opened : AreOpened root outs inns) where
  pub unsent-at : (k : ℕ) → sent_on (slice_get outs k) ≡ []
  unsent-at k = by_end (slice_get outs k) refl
    where
      by_end : (x : Option OutSeen) → slice_get outs k ≡ x → sent_on x ≡ []
      by_end None e = refl
      by_end (Some out) e =
          let l = slice_get_within outs k out e in
          let s = some_at inns k (let c = opened.count.0 in let d = opened.count.1 in omega (arith, l, c, d)) in
          (opened.nothing k out s.0 e s.1).0

  unread-at : (k : ℕ) → got_on (slice_get inns k) ≡ []
  unread-at k = by_end (slice_get inns k) refl
    where
      by_end : (x : Option InSeen) → slice_get inns k ≡ x → got_on x ≡ []
      by_end None e = refl
      by_end (Some inn) e =
          let l = slice_get_within inns k inn e in
          let s = some_at outs k (let c = opened.count.0 in let d = opened.count.1 in omega (arith, l, c, d)) in
          (opened.nothing k s.0 inn s.1 e).1

-- the deals as hands
get-map : {X Y : Type 0} (f : X → Y) (xs : List X) (i : ℕ) (d : X) → slice_index_or (map f xs) i (f d) ≡ f (slice_index_or xs i d)
get-map f [] i d = refl
get-map f (x ∷ xs) zero d = refl
get-map f (x ∷ xs) (suc i) d = get-map f xs i d

length-map : {X Y : Type 0} (f : X → Y) (xs : List X) → length (map f xs) ≡ length xs
length-map f [] = refl
length-map f (x ∷ xs) = let h = length-map f xs in omega (arith, h)

module _ {W : Type 0} (goes : List ℕ) (workers : ℕ) (xs : List (Place W)) (deals : List (Deal W)) (same : hands_of deals ≡ dealt goes workers 0 xs) where
  pub deals-count : length deals ≡ workers
  deals-count = sym (length-map hand_of deals) ∙ ap (λ (hs : List (Hand W)). length hs) same ∙ dealt-length goes workers 0 xs

  hand-at : (i : ℕ) (d : Deal W) → hand_of (slice_index_or deals i d) ≡ slice_index_or (dealt goes workers 0 xs) i (hand_of d)
  hand-at i d = sym (get-map hand_of deals i d) ∙ ap (λ hs. slice_index_or hs i (hand_of d)) same

  pub deals-few : AreWorkers workers goes → length xs < 2 ^ 32 → AreFew deals
  deals-few below few i d l =
      let m : i < workers = subst (λ n. i < n) deals-count l in
      let at : length (slice_index_or deals i d).seats.items ≡ length (slice_index_or (dealt goes workers 0 xs) i empty_hand).seats =
      ap (λ (hand : Hand W). length hand.seats) (hand-at i d ∙ any_default (dealt goes workers 0 xs) i (hand_of d) empty_hand (subst (λ n. i < n) (sym (dealt-length goes workers 0 xs)) m)) in
      let f = seats-few goes workers below 0 i xs m in omega (arith, few, at, f)

module _ {W S : Type 0} (g : Ghosts W S) where
  -- a new node with new ends
  pub record IsNewPlace (x : Place W) : Type 0 where
    pub below : List ℕ
    pub fresh : IsFresh (shown g below (node_of (seat_of x)))
    pub unsent : sent_on x.out ≡ []
    pub ends : (k : ℕ) → k < (node_of (seat_of x)).inputs → is_some (slice_get x.ins k) ≡ true
    pub unread : (k : ℕ) → got_on (slice_get x.ins k) ≡ []

  -- seats that may take turns, and no end of another
  pub record HandFits (hand : Hand W) : Type 0 where
    pub fit : AreFit g hand.ins hand.seats
    pub beyond : (s k : ℕ) → length hand.seats ≤ s → end_of hand.ins s k ≡ None

  empty-fits : HandFits empty_hand
  empty-fits = record { fit = λ k d l. absurd (omega (arith, l)); beyond = λ s k l. refl }

  module _ (x : Place W) (hand : Hand W) (new : IsNewPlace x) (h : HandFits hand) where
    abbrev n : ℕ
    n = length hand.seats

    abbrev more : List SeatIn
    more = entries n 0 x.ins

    here : (k : ℕ) → end_of (hand.ins ++ more) n k ≡ slice_get x.ins k
    here k = append-second hand.ins more n k (h.beyond n k (omega arith)) ∙ entries-here n 0 k x.ins k (omega arith)

    last-fits : IsFit g (hand.ins ++ more) n (seat_of x)
    last-fits = fresh-fit g (hand.ins ++ more) n (seat_of x) new.below new.fresh new.unsent
        (λ k l. ap is_some (here k) ∙ new.ends k l) (λ k. ap got_on (here k) ∙ new.unread k)

    seat-fits : (k : ℕ) (d : Seat W) → k < length (hand.seats ++ seat_of x ∷ []) → IsFit g (hand.ins ++ more) k (slice_index_or (hand.seats ++ seat_of x ∷ []) k d)
    seat-fits k d l = elim (eqb_tells k n) [
      | inl e ↦ subst (λ i. IsFit g (hand.ins ++ more) i (slice_index_or (hand.seats ++ seat_of x ∷ []) i d)) (sym e.1)
          (subst (IsFit g (hand.ins ++ more) n) (sym (get-last hand.seats (seat_of x) d)) last-fits)
      | inr e ↦ (let m : k < n = (let a = length-append hand.seats (seat_of x ∷ []) in let ne = e.1 in omega (arith, l, a, ne)) in
          subst (IsFit g (hand.ins ++ more) k) (sym (get-front hand.seats (seat_of x) k d m))
          (fit-still g hand.ins (hand.ins ++ more) k (slice_index_or hand.seats k d)
          (λ i. append-none hand.ins more k i (entries-other n 0 k i x.ins e.1)) (h.fit k d m)))
    ]

    pub with_place-fits : HandFits (with_place x hand)
    with_place-fits = record {
      fit = seat-fits;
      beyond = λ s k l. (let a = length-append hand.seats (seat_of x ∷ []) in
          append-second hand.ins more s k (h.beyond s k (omega (arith, l, a))) ∙ entries-other n 0 s k x.ins (λ z. omega (arith, l, a, z)));
    }

  pub dealt-fits : (goes : List ℕ) (workers place : ℕ) (xs : List (Place W)) → AreWorkers workers goes → ((j : ℕ) (x : Place W) → slice_get xs j ≡ Some x → IsNewPlace x) → Each (λ i hand. HandFits hand) (dealt goes workers place xs)
  dealt-fits goes workers place [] below new = λ k d l. subst HandFits (sym (get_or-replicate workers k empty_hand d (subst (λ n. k < n) (length-replicate workers empty_hand) l))) empty-fits
  dealt-fits goes workers place (x ∷ xs) below new =
      let before = dealt goes workers (suc place) xs in
      let ih = dealt-fits goes workers (suc place) xs below (λ j. new (suc j)) in
      let inside : worker_at goes place < length before = subst (λ n. worker_at goes place < n) (sym (dealt-length goes workers (suc place) xs)) (below place) in
      each-one (λ i hand. HandFits hand) before (worker_at goes place) (with_place x (slice_index_or before (worker_at goes place) empty_hand))
      (with_place-fits x (slice_index_or before (worker_at goes place) empty_hand) (new 0 x refl) (ih (worker_at goes place) empty_hand inside)) (λ j d l _. ih j d l)

  pub places-new : (place root : ℕ) (ns : List (Node W)) (ins : List (List ℕ)) (outs : List OutSeen) (inns : List InSeen) → AreOpened root outs inns → ((k : ℕ) → shape.Each (λ j. j < k) (children ins k))
      → place + length ns ≤ root + 1 → ((j k : ℕ) (n : Node W) → k ≡ place + j → slice_get ns j ≡ Some n → IsFresh (shown g (children ins k) n))
      → (j : ℕ) (x : Place W) → slice_get (places place ns ins outs inns) j ≡ Some x → IsNewPlace x
  places-new place root [] ins outs inns opened below count fresh j x e = cc
  places-new place root (n ∷ ns) ins outs inns opened below count fresh zero x e = subst IsNewPlace (one-some _ x e) (record {
    below = children ins place;
    fresh = now;
    unsent = unsent-at root outs inns opened place;
    ends = λ k l. picked-some inns (children ins place) place (below place) (let c = opened.count.1 in omega (arith, c, count)) k (let i = now.inputs in omega (arith, i, l));
    unread = picked-unread inns (unread-at root outs inns opened) (children ins place);
  })
    where
      now : IsFresh (shown g (children ins place) n)
      now = fresh 0 place n (omega arith) refl

      one-some : (a b : Place W) → Some a ≡ Some b → a ≡ b
      one-some a b e = cc
  places-new place root (n ∷ ns) ins outs inns opened below count fresh (suc j) x e =
      places-new (suc place) root ns ins outs inns opened below (omega (arith, count)) (λ i k m a. fresh (suc i) k m (omega (arith, a))) j x e

  -- so the deals of what was dealt may
  pub deals-fit : (goes : List ℕ) (workers : ℕ) (xs : List (Place W)) (deals : List (Deal W)) → hands_of deals ≡ dealt goes workers 0 xs → AreWorkers workers goes → ((j : ℕ) (x : Place W) → slice_get xs j ≡ Some x → IsNewPlace x) → DealsFit g deals
  deals-fit goes workers xs deals same below new i d l =
      (subst HandFits (sym (hand-at goes workers xs deals same i d)) (dealt-fits goes workers 0 xs below new i (hand_of d)
      (subst (λ n. i < n) (sym (dealt-length goes workers 0 xs)) (subst (λ n. i < n) (deals-count goes workers xs deals same) l)))).fit

  -- and so do those of a new tree
  pub tree-fits : (goes : List ℕ) (workers : ℕ) (all : List (Node W)) (ins : List (List ℕ)) (outs : List OutSeen) (inns : List InSeen) (deals : List (Deal W)) → hands_of deals ≡ dealt goes workers 0 (places 0 all ins outs inns) → AreWorkers workers goes → 0 < length all
      → AreOpened (length all - 1) outs inns → IsForest ins (length all - 1) → ((k : ℕ) (n : Node W) → slice_get all k ≡ Some n → IsFresh (shown g (children ins k) n)) → DealsFit g deals
  tree-fits goes workers all ins outs inns deals same below nodes opened forest fresh =
      deals-fit goes workers (places 0 all ins outs inns) deals same below
      (places-new 0 (length all - 1) all ins outs inns opened forest.below (omega (arith, nodes))
      (λ j k n e s. fresh k n (subst (λ i. slice_get all i ≡ Some n) (let z : j ≡ k = omega (arith, e) in z) s)))
