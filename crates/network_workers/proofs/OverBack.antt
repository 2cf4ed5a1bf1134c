-- Turns that are over stay over while nodes are taken back.
use Rattle.std.proofs.Common.{◌≡◌, ◌≢◌, ℕ, zero, suc, ◌<◌, ◌⊎◌, inl, inr, true, List, [], ◌∷◌, ◌++◌, length, Option, Some, None, get_or, set, refl, ap, sym, ◌∙◌, arith, vec_len}
use Rattle.std.specs.Prelude.{slice_get, is_some}
use Rattle.std.proofs.lemmas.Bool.Decides.{eqb_tells}
use Rattle.std.proofs.lemmas.Bool.{cases_lt}
use Rattle.std.proofs.lemmas.List.{length_push}
use Rattle.std.proofs.lemmas.Option.{slice_get_within, get_or_from_slice_get, slice_get-get_or}
use Rattle.circular_buffer.proofs.Places.{slice_get-set_same, slice_get-set_other}
use Rattle.cloud_points.specs.declared.work.Work.{Ghosts}
use Rattle.network_core.specs.declared.node.Node.{Node}
use Rattle.network_core.specs.declared.stop.Stop.{Stop}
use Rattle.network_core.specs.declared.stop.Stop.TheVariants.{Last, First}
use Rattle.network_solo.specs.Stopping.{AllDone, SomeFault}
use Rattle.network_workers.specs.declared.seats.Seat.{Seat}
use Rattle.network_workers.specs.declared.seats.Deal.{Deal}
use Rattle.network_workers.specs.Gathered.{IsOverFor}
use Rattle.network_workers.specs.Lists.{Each}
use Rattle.network_workers.specs.Seats.{node_of, AreDone, DealsDone}
use Rattle.network_workers.specs.Stopping.{deal_stops, seat_stops, stops_among, Somewhere, DealsOver}
use Rattle.network_workers.proofs.Lists.{each-one}

-- lists with one element more
pub get-before : {X : Type 0} (xs : List X) (y : X) (k : ℕ) → k < length xs → slice_get (xs ++ y ∷ []) k ≡ slice_get xs k
get-before [] y k l = absurd (omega (arith, l))
get-before (x ∷ xs) y zero l = refl
get-before (x ∷ xs) y (suc k) l = get-before xs y k (omega (arith, l))

pub get-behind : {X : Type 0} (xs : List X) (y : X) → slice_get (xs ++ y ∷ []) (length xs) ≡ Some y
get-behind [] y = refl
get-behind (x ∷ xs) y = get-behind xs y

pub not-both : {X : Type 0} {B : Type 0} (o : Option X) (x : X) → o ≡ None → o ≡ Some x → B
not-both None x e f = cc
not-both (Some y) x e f = cc

pub one_thing : {X : Type 0} {a b : X} → Some a ≡ Some b → a ≡ b
one_thing e = cc

-- an element of a list with one more is the last one or an earlier one
pub last-or : {X : Type 0} (xs : List X) (y : X) (k : ℕ) (x : X) → slice_get (xs ++ y ∷ []) k ≡ Some x → ((k ≡ length xs) × (y ≡ x)) ⊎ (slice_get xs k ≡ Some x)
last-or xs y k x e = elim (cases_lt k (length xs)) [
  | inl l ↦ inr (sym (get-before xs y k l) ∙ e)
  | inr l ↦ (let at : k ≡ length xs = (let i = slice_get_within (xs ++ y ∷ []) k x e in let m = length_push xs y in omega (arith, i, m, l)) in
      inl (at, one_thing (sym (get-behind xs y) ∙ ap (slice_get (xs ++ y ∷ [])) (sym at) ∙ e)))
]

module _ {W S : Type 0} (g : Ghosts W S) where
  -- the seat behind which turns end
  pub record Ends (deals : List (Deal W)) : Type 0 where
    pub i : ℕ
    pub p : ℕ
    pub deal : Deal W
    pub seat : Seat W
    pub deal_is : slice_get deals i ≡ Some deal
    pub seat_is : slice_get deal.seats.items p ≡ Some seat
    pub fault : is_some (node_of seat).fault ≡ true

  ends-at : (deals : List (Deal W)) (i p : ℕ) (o : Option (Deal W)) → slice_get deals i ≡ o → deal_stops First o p ≡ true → Ends deals
  ends-at deals i p None e h = cc
  ends-at deals i p (Some deal) e h = by_seat (slice_get deal.seats.items p) refl h
    where
      by_seat : (o : Option (Seat W)) → slice_get deal.seats.items p ≡ o → seat_stops First o ≡ true → Ends deals
      by_seat None f z = cc
      by_seat (Some seat) f z = record { i = i; p = p; deal = deal; seat = seat; deal_is = e; seat_is = f; fault = z }

  somewhere-ends : (deals : List (Deal W)) → Somewhere (stops_among First deals) → Ends deals
  somewhere-ends deals some = ends-at deals some.0.0 some.0.1 (slice_get deals some.0.0) refl some.1

  ends-somewhere : (deals : List (Deal W)) → Ends deals → Somewhere (stops_among First deals)
  ends-somewhere deals e = ((e.i, e.p), ap (λ o. deal_stops First o e.p) e.deal_is ∙ ap (seat_stops First) e.seat_is ∙ e.fault)

  -- before the first
  pub over-none : (stop : Stop) (deals : List (Deal W)) (nodes : List (Node W)) → nodes ≡ [] → DealsOver stop deals → IsOverFor g stop deals nodes
  over-none Last deals nodes none done = inl (done, λ k x e. not-both (slice_get nodes k) x (ap (λ ys. slice_get ys k) none) e)
  over-none First deals nodes none (inl done) = inl (done, λ k x e. not-both (slice_get nodes k) x (ap (λ ys. slice_get ys k) none) e)
  over-none First deals nodes none (inr some) = inr (refl, inl some)

  -- one more, the last seat of a deal
  module _ (stop : Stop) (deals : List (Deal W)) (w : ℕ) (y d : Deal W) (inside : w < length deals) (seat : Seat W) (seats : (get_or deals w d).seats.items ≡ y.seats.items ++ seat ∷ []) (nodes : List (Node W)) where
    deal-at : (deal : Deal W) → slice_get deals w ≡ Some deal → deal.seats.items ≡ y.seats.items ++ seat ∷ []
    deal-at deal e = ap (λ (z : Deal W). z.seats.items) (sym (get_or_from_slice_get deals w deal d e)) ∙ seats

    last-node : slice_get (nodes ++ seat.node ∷ []) (length nodes) ≡ Some seat.node
    last-node = get-behind nodes seat.node

    still-ends : Ends deals → Somewhere (stops_among First (set deals w y)) ⊎ SomeFault g (nodes ++ seat.node ∷ [])
    still-ends e = elim (eqb_tells e.i w) [ inl h ↦ here h.1 | inr h ↦ there h.1 ]
      where
        there : e.i ≢ w → Somewhere (stops_among First (set deals w y)) ⊎ SomeFault g (nodes ++ seat.node ∷ [])
        there ne = inl (ends-somewhere (set deals w y) (record { i = e.i; p = e.p; deal = e.deal; seat = e.seat; deal_is = slice_get-set_other deals w e.i y ne ∙ e.deal_is; seat_is = e.seat_is; fault = e.fault }))

        here : e.i ≡ w → Somewhere (stops_among First (set deals w y)) ⊎ SomeFault g (nodes ++ seat.node ∷ [])
        here same = elim (last-or y.seats.items seat e.p e.seat (ap (λ ss. slice_get ss e.p) (sym (deal-at e.deal (ap (slice_get deals) (sym same) ∙ e.deal_is))) ∙ e.seat_is)) [
          | inl h ↦ inr (length nodes, seat.node, last-node, ap (λ (s : Seat W). is_some (node_of s).fault) h.1 ∙ e.fault)
          | inr h ↦ inl (ends-somewhere (set deals w y) (record { i = w; p = e.p; deal = y; seat = e.seat; deal_is = slice_get-set_same deals w y inside; seat_is = h; fault = e.fault }))
        ]

    done-back : DealsDone deals → DealsDone (set deals w y)
    done-back done = each-one (λ j (e : Deal W). AreDone e.seats.items) deals w y left (λ j e l ne. done j e l)
      where
        left : AreDone y.seats.items
        left k e l =
            let more : k < length (get_or deals w d).seats.items = (let all : length (get_or deals w d).seats.items ≡ length (y.seats.items ++ seat ∷ []) = ap (λ (ys : List (Seat W)). length ys) seats in let two = length_push y.seats.items seat in omega (arith, l, all, two)) in
            ap (λ (s : Seat W). (node_of s).done) (sym (one_thing (sym (slice_get-get_or (get_or deals w d).seats.items k e more) ∙ ap (λ ys. slice_get ys k) seats ∙ get-before y.seats.items seat k l ∙ slice_get-get_or y.seats.items k e l)))
            ∙ done w d inside k e more

    seat-done : DealsDone deals → seat.node.done ≡ true
    seat-done done =
        let more : length y.seats.items < length (get_or deals w d).seats.items = (let all : length (get_or deals w d).seats.items ≡ length (y.seats.items ++ seat ∷ []) = ap (λ (ys : List (Seat W)). length ys) seats in let two = length_push y.seats.items seat in omega (arith, all, two)) in
        ap (λ (s : Seat W). (node_of s).done) (sym (one_thing (sym (slice_get-get_or (get_or deals w d).seats.items (length y.seats.items) seat more) ∙ ap (λ ys. slice_get ys (length y.seats.items)) seats ∙ get-behind y.seats.items seat)))
        ∙ done w d inside (length y.seats.items) seat more

    pub over-back : IsOverFor g stop deals nodes → IsOverFor g stop (set deals w y) (nodes ++ seat.node ∷ [])
    over-back (inl (done, all)) = inl (
      done-back done,
      λ k x e. elim (last-or nodes seat.node k x e) [
        | inl h ↦ ap (λ (z : Node W). z.done) (sym h.1) ∙ seat-done done
        | inr h ↦ all k x h
      ],
    )
    over-back (inr (first, inl some)) = inr (first, still-ends (somewhere-ends deals some))
    over-back (inr (first, inr (k, x, e, fault))) = inr (first, inr (k, x, get-before nodes seat.node k (slice_get_within nodes k x e) ∙ e, fault))

  -- behind the last
  pub over-all : (stop : Stop) (deals : List (Deal W)) (nodes : List (Node W)) → Each (λ i (deal : Deal W). vec_len deal.seats ≡ 0) deals → IsOverFor g stop deals nodes → AllDone g nodes ⊎ ((stop ≡ First) × SomeFault g nodes)
  over-all stop deals nodes empty (inl (done, all)) = inl all
  over-all stop deals nodes empty (inr (first, inr fault)) = inr (first, fault)
  over-all stop deals nodes empty (inr (first, inl some)) =
      let e = somewhere-ends deals some in
      let l = slice_get_within e.deal.seats.items e.p e.seat e.seat_is in
      let none : vec_len e.deal.seats ≡ 0 = ap (λ (z : Deal W). vec_len z.seats) (sym (get_or_from_slice_get deals e.i e.deal e.deal e.deal_is)) ∙ empty e.i e.deal (slice_get_within deals e.i e.deal e.deal_is) in
      let size = e.deal.seats.ok.0 in absurd (omega (arith, l, none, size))
