-- The hands that were dealt to workers, and how the node that was dealt last is taken back.
use Rattle.std.proofs.Common.{◌≡◌, ℕ, zero, suc, ◌+◌, ◌<◌, ◌≤◌, inl, inr, Bool, true, false, cond, List, [], ◌∷◌, length, Option, Some, None, get_or, set, refl, ap, subst, sym, ◌∙◌, arith, length-append}
use Rattle.std.specs.Prelude.{slice_get, slice_index_or, slice_set}
use Rattle.std.proofs.lemmas.Bool.Decides.{eqb_tells}
use Rattle.std.proofs.lemmas.List.{length-set, get_or-replicate, get_or-set_same, get_or-set_other, get_or_default}
use Rattle.std.proofs.lemmas.Option.{get_or_from_slice_get}
use Rattle.cloud_points.specs.declared.work.Work.{Ghosts}
use Rattle.chunk_queue.specs.Ends.{InSeen}
use Rattle.network_theory.specs.Shape as shape
use Rattle.network_core.proofs.Opened.{some_at}
use Rattle.network_workers.specs.declared.seats.SeatIn.{SeatIn}
use Rattle.network_workers.specs.declared.seats.Deal.{Deal}
use Rattle.network_workers.specs.Dealt.{Place, Hand, hand_of, empty_hand, seat_of, entries, with_place, AreWorkers, worker_at, dealt, add_some, picked, HandsCarry}
use Rattle.network_workers.specs.Ends.{end_of, got_on, is_at, EntryGrew, EndsGrew}
use Rattle.network_workers.specs.Lists.{Each}
use Rattle.network_workers.specs.Seats.{SeatsCarry}
use Rattle.network_workers.proofs.Counted.{dealt-length}
use Rattle.network_workers.proofs.Dealing.{TakenBack, taken-back, append-none, entries-other}
use Rattle.network_workers.proofs.EndsOf.{is_at-here, is_at-other}
use Rattle.network_workers.proofs.Lists.{each-one}

-- the ends above children of these numbers
pub each-at : (P : ℕ → Type 0) (cs : List ℕ) (k : ℕ) → shape.Each P cs → k < length cs → P (get_or cs k 0)
each-at P [] k h l = absurd (omega (arith, l))
each-at P (c ∷ cs) zero h l = h.0
each-at P (c ∷ cs) (suc k) h l = each-at P cs k h.1 (omega (arith, l))

pub each-from : (P : ℕ → Type 0) (cs : List ℕ) → ((k : ℕ) → k < length cs → P (get_or cs k 0)) → shape.Each P cs
each-from P [] h = tt
each-from P (c ∷ cs) h = (h 0 (omega arith), each-from P cs (λ k l. h (suc k) (omega (arith, l))))

add-there : (o : Option InSeen) (e : InSeen) (xs : List InSeen) → o ≡ Some e → add_some o xs ≡ e ∷ xs
add-there o e xs h = ap (λ z. add_some z xs) h

pub picked-length : (inns : List InSeen) (cs : List ℕ) → shape.Each (λ c. c < length inns) cs → length (picked inns cs) ≡ length cs
picked-length inns [] h = refl
picked-length inns (c ∷ cs) h =
    let e = some_at inns c h.0 in
    ap length (add-there (slice_get inns c) e.0 (picked inns cs) e.1) ∙ ap suc (picked-length inns cs h.1)

pub picked-at : (inns : List InSeen) (cs : List ℕ) → shape.Each (λ c. c < length inns) cs → (k : ℕ) (d : InSeen) → k < length cs → get_or (picked inns cs) k d ≡ get_or inns (get_or cs k 0) d
picked-at inns [] h k d l = absurd (omega (arith, l))
picked-at inns (c ∷ cs) h zero d l =
    let e = some_at inns c h.0 in
    ap (λ xs. get_or xs 0 d) (add-there (slice_get inns c) e.0 (picked inns cs) e.1) ∙ sym (get_or_from_slice_get inns c e.0 d e.1)
picked-at inns (c ∷ cs) h (suc k) d l =
    let e = some_at inns c h.0 in
    ap (λ xs. get_or xs (suc k) d) (add-there (slice_get inns c) e.0 (picked inns cs) e.1) ∙ picked-at inns cs h.1 k d (omega (arith, l))

-- on ends that took nothing nothing was got
pub picked-unread : (inns : List InSeen) (cs : List ℕ) → ((k : ℕ) (e : InSeen) → slice_get inns k ≡ Some e → e.got ≡ []) → shape.Each (λ (e : InSeen). e.got ≡ []) (picked inns cs)
picked-unread inns [] h = tt
picked-unread inns (c ∷ cs) h = by_end (picked-unread inns cs h) (slice_get inns c) refl
  where
    by_end : shape.Each (λ (e : InSeen). e.got ≡ []) (picked inns cs) → (o : Option InSeen) → slice_get inns c ≡ o → shape.Each (λ (e : InSeen). e.got ≡ []) (add_some o (picked inns cs))
    by_end rest None e = rest
    by_end rest (Some i) e = (h c i e, rest)

pub entries-unread : (seat first : ℕ) (es : List InSeen) → shape.Each (λ (e : InSeen). e.got ≡ []) es → (s k : ℕ) → got_on (end_of (entries seat first es) s k) ≡ []
entries-unread seat first [] h s k = refl
entries-unread seat first (e ∷ es) h s k = by_test (entries-unread seat (suc first) es h.1 s k) (is_at (record { seat = seat; input = first; end = e }) s k)
  where
    by_test : got_on (end_of (entries seat (suc first) es) s k) ≡ [] → (b : Bool) → got_on (cond b (Some e) (end_of (entries seat (suc first) es) s k)) ≡ []
    by_test rest true = h.0
    by_test rest false = rest

-- the ends of one seat, which took more since
pub grew-length : (seat first : ℕ) (es : List InSeen) (ys : List SeatIn) → EndsGrew (entries seat first es) ys → length ys ≡ length es
grew-length seat first [] [] h = refl
grew-length seat first (e ∷ es) (y ∷ ys) h = ap suc (grew-length seat (suc first) es ys h.1)
grew-length seat first [] (y ∷ ys) h = absurd h
grew-length seat first (e ∷ es) [] h = absurd h

pub grew-at : (seat first : ℕ) (es : List InSeen) (ys : List SeatIn) → EndsGrew (entries seat first es) ys → (k : ℕ) (e : InSeen) (y : SeatIn) → k < length es
    → EntryGrew (record { seat = seat; input = first + k; end = get_or es k e }) (get_or ys k y)
grew-at seat first [] [] h k d y l = absurd (omega (arith, l))
grew-at seat first (e ∷ es) (z ∷ ys) h zero d y l = record { seat = h.0.seat; input = h.0.input ∙ omega arith; end = h.0.end }
grew-at seat first (e ∷ es) (z ∷ ys) h (suc k) d y l =
    let r : EntryGrew (record { seat = seat; input = suc first + k; end = get_or es k d }) (get_or ys k y) = grew-at seat (suc first) es ys h.1 k d y (omega (arith, l)) in
    record { seat = r.seat; input = r.input ∙ omega arith; end = r.end }
grew-at seat first [] (z ∷ ys) h k d y l = absurd h
grew-at seat first (e ∷ es) [] h k d y l = absurd h

pub end-here : (seat first : ℕ) (es : List InSeen) (ys : List SeatIn) → EndsGrew (entries seat first es) ys → (k : ℕ) (y : SeatIn) → k < length es → end_of ys seat (first + k) ≡ Some (get_or ys k y).end
end-here seat first [] [] h k y l = absurd (omega (arith, l))
end-here seat first (e ∷ es) (z ∷ ys) h zero y l =
    ap (λ b. cond b (Some z.end) (end_of ys seat (first + 0))) (is_at-here z seat (first + 0) h.0.seat (h.0.input ∙ omega arith))
end-here seat first (e ∷ es) (z ∷ ys) h (suc k) y l =
    ap (λ b. cond b (Some z.end) (end_of ys seat (first + suc k))) (is_at-other z seat first seat (first + suc k) h.0.seat h.0.input (inr (λ q. absurd (omega (arith, q)))))
    ∙ ap (end_of ys seat) {x = first + suc k} {y = suc first + k} (omega arith) ∙ end-here seat (suc first) es ys h.1 k y (omega (arith, l))
end-here seat first [] (z ∷ ys) h k y l = absurd h
end-here seat first (e ∷ es) [] h k y l = absurd h

pub end-past : (seat first : ℕ) (es : List InSeen) (ys : List SeatIn) → EndsGrew (entries seat first es) ys → (k : ℕ) → length es ≤ k → end_of ys seat (first + k) ≡ None
end-past seat first [] [] h k l = refl
end-past seat first (e ∷ es) (z ∷ ys) h zero l = absurd (omega (arith, l))
end-past seat first (e ∷ es) (z ∷ ys) h (suc k) l =
    ap (λ b. cond b (Some z.end) (end_of ys seat (first + suc k))) (is_at-other z seat first seat (first + suc k) h.0.seat h.0.input (inr (λ q. absurd (omega (arith, q)))))
    ∙ ap (end_of ys seat) {x = first + suc k} {y = suc first + k} (omega arith) ∙ end-past seat (suc first) es ys h.1 k (omega (arith, l))
end-past seat first [] (z ∷ ys) h k l = absurd h
end-past seat first (e ∷ es) [] h k l = absurd h

-- a hand has ends of its own seats alone
abbrev pub IsOwn : {W : Type 0} → Hand W → Type 0
IsOwn hand = (s k : ℕ) → length hand.seats ≤ s → end_of hand.ins s k ≡ None

own-more : {W : Type 0} (x : Place W) (hand : Hand W) → IsOwn hand → IsOwn (with_place x hand)
own-more x hand h s k l =
    let more = length-append hand.seats (seat_of x ∷ []) in
    append-none hand.ins (entries (length hand.seats) 0 x.ins) s k (entries-other (length hand.seats) 0 s k x.ins (λ e. absurd (omega (arith, l, more, e))))
    ∙ h s k (omega (arith, l, more))

pub dealt-own : {W : Type 0} (goes : List ℕ) (workers place : ℕ) (xs : List (Place W)) → AreWorkers workers goes → (i : ℕ) (d : Hand W) → i < workers → IsOwn (get_or (dealt goes workers place xs) i d)
dealt-own {W = W} goes workers place [] below i d l = subst (λ (hand : Hand W). IsOwn hand) (sym (get_or-replicate {A = Hand W} workers i empty_hand d l)) (λ s k _. refl)
dealt-own {W = W} goes workers place (x ∷ xs) below i d l =
    let n = dealt-length goes workers (suc place) xs in
    let inside : worker_at goes place < workers = below place in
    let m = length-set (dealt goes workers (suc place) xs) (worker_at goes place) (with_place x (get_or (dealt goes workers (suc place) xs) (worker_at goes place) empty_hand)) in
    let all : Each {X = Hand W} (λ j hand. IsOwn hand) (set (dealt goes workers (suc place) xs) (worker_at goes place) (with_place x (get_or (dealt goes workers (suc place) xs) (worker_at goes place) empty_hand))) =
    each-one (λ j hand. IsOwn hand) (dealt goes workers (suc place) xs) (worker_at goes place) (with_place x (get_or (dealt goes workers (suc place) xs) (worker_at goes place) empty_hand))
    (own-more x (get_or (dealt goes workers (suc place) xs) (worker_at goes place) empty_hand) (dealt-own goes workers (suc place) xs below (worker_at goes place) empty_hand inside))
    (λ j e b ne. dealt-own goes workers (suc place) xs below j e (omega (arith, b, n))) in
    all i d (omega (arith, l, n, m))

-- the node that was dealt last is the last of its hand
module _ {W S : Type 0} (g : Ghosts W S) (hands : List (Hand W)) (w : ℕ) (x : Place W) (deals : List (Deal W)) (inside : w < length hands)
    (h : HandsCarry g (slice_set hands w (with_place x (slice_index_or hands w empty_hand))) deals) (d : Deal W) where
  abbrev pub hand : Hand W
  hand = get_or hands w empty_hand

  abbrev pub deal : Deal W
  deal = get_or deals w d

  same-length : length (set hands w (with_place x hand)) ≡ length hands
  same-length = length-set hands w (with_place x hand)

  pub deal-there : w < length deals
  deal-there = let a = h.len in let b = same-length in omega (arith, a, b, inside)

  carries-here : SeatsCarry g (with_place x hand).ins deal.ins.items (with_place x hand).seats deal.seats.items
  carries-here = subst (λ (z : Hand W). SeatsCarry g z.ins deal.ins.items z.seats deal.seats.items) (get_or-set_same hands w (with_place x hand) empty_hand inside)
      (h.each w empty_hand d (let b = same-length in omega (arith, b, inside)))

  pub last-back : TakenBack g x hand (hand_of deal)
  last-back = taken-back g x hand (hand_of deal) carries-here

  pub rest-back : (y : Deal W) → SeatsCarry g hand.ins y.ins.items hand.seats y.seats.items → HandsCarry g hands (set deals w y)
  rest-back y s = record {
    len = length-set deals w y ∙ h.len ∙ same-length;
    each = λ i p q l. elim (eqb_tells i w) [
      | inl e ↦ subst (λ j. SeatsCarry g (get_or hands j p).ins (get_or (set deals w y) j q).ins.items (get_or hands j p).seats (get_or (set deals w y) j q).seats.items) (sym e.1)
          (subst (λ (z : Hand W). SeatsCarry g z.ins (get_or (set deals w y) w q).ins.items z.seats (get_or (set deals w y) w q).seats.items) (get_or_default hands w empty_hand p inside)
          (subst (λ (z : Deal W). SeatsCarry g hand.ins z.ins.items hand.seats z.seats.items) (sym (get_or-set_same deals w y q deal-there)) s))
      | inr e ↦ subst (λ (z : Deal W). SeatsCarry g (get_or hands i p).ins z.ins.items (get_or hands i p).seats z.seats.items) (sym (get_or-set_other deals w i y q e.1))
          (subst (λ (z : Hand W). SeatsCarry g z.ins (get_or deals i q).ins.items z.seats (get_or deals i q).seats.items) (get_or-set_other hands w i (with_place x hand) p e.1)
          (h.each i p q (let b = same-length in omega (arith, b, l))))
    ];
  }
