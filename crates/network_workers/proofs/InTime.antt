-- Where turns end, turn after turn.
use Rattle.std.proofs.Common.{◌≡◌, ◌≢◌, ℕ, ◌+◌, ◌<◌, Bool, true, false, List, length, Option, Some, None, refl, ap, subst, sym, ◌∙◌, inl, inr, true≢false, arith}
use Rattle.std.specs.Prelude.{slice_get, slice_set, slice_index_or}
use Rattle.std.proofs.lemmas.Bool.Decides.{eqb_tells}
use Rattle.std.proofs.lemmas.Option.{slice_get_within, slice_get-get_or}
use Rattle.circular_buffer.proofs.Places.{slice_get-set_same, slice_get-set_other}
use Rattle.network_core.specs.declared.stop.Stop.{Stop}
use Rattle.network_workers.specs.declared.seats.Seat.{Seat}
use Rattle.network_workers.specs.declared.seats.Deal.{Deal}
use Rattle.network_workers.specs.Stopping.{seat_stops, stops_in, deal_stops, stops_among, Somewhere, Nowhere, AtMostOnce, TurnsTaken, EndedInTime, OtherSeatsStay}

module _ {P : Type 0} where
  pub none-one : (is : P → Bool) → Nowhere is → AtMostOnce is
  none-one is none p q a b = absurd (true≢false (sym a ∙ none p))

  pub not-both : (is : P → Bool) → Somewhere is → Nowhere is → ⊥
  not-both is some none = true≢false (sym some.1 ∙ none some.0)

  -- no turn, and turns on turns behind which none ended
  pub taken-nothing : (is : P → Bool) → TurnsTaken false is is
  taken-nothing is = record { here = λ e. absurd (true≢false (sym e)); goes_on = λ _ none. none; one = none-one is }

  pub taken-on : (ended : Bool) (old now new : P → Bool) → (Nowhere old → Nowhere now) → TurnsTaken ended now new → TurnsTaken ended old new
  taken-on ended old now new still more = record {
    here = more.here;
    goes_on = λ e none. more.goes_on e (still none);
    one = λ none. more.one (still none);
  }

-- no place yet, and one at most while there was none
module _ {P X : Type 0} (stops : X → P → Bool) where
  pub in_time-starts : (x : X) → EndedInTime stops x x
  in_time-starts x = record { stays = λ _. refl; one = none-one (stops x) }

  pub in_time-on : (old now new : X) → EndedInTime stops old now → Nowhere (stops now) → (Nowhere (stops now) → AtMostOnce (stops new)) → EndedInTime stops old new
  in_time-on old now new so none more = record {
    stays = λ some. absurd (not-both (stops now) (subst (λ x. Somewhere (stops x)) (sym (so.stays some)) some) none);
    one = λ _. more none;
  }

module _ {W : Type 0} (stop : Stop) where
  -- a turn of the seat at a place
  taken-turn : (at : ℕ) (old new : List (Seat W)) → OtherSeatsStay at old new → TurnsTaken (stops_in stop new at) (stops_in stop old) (stops_in stop new)
  taken-turn at old new others = record {
    here = λ e. (at, e);
    goes_on = λ e none k. elim (eqb_tells k at) [
      | inl h ↦ ap (stops_in stop new) h.1 ∙ e
      | inr h ↦ ap (seat_stops stop) (others k h.1) ∙ none k
    ];
    one = λ none p q a b. only none p a ∙ sym (only none q b);
  }
    where
      only : Nowhere (stops_in stop old) → (k : ℕ) → stops_in stop new k ≡ true → k ≡ at
      only none k a = elim (eqb_tells k at) [
        | inl h ↦ h.1
        | inr h ↦ absurd (true≢false (sym a ∙ ap (seat_stops stop) (others k h.1) ∙ none k))
      ]

  -- and whether turns end behind it, as its seats are seen then
  pub taken-behind : (at : ℕ) (old new seen : List (Seat W)) → seen ≡ new → (ended : Bool) → ended ≡ stops_in stop seen at → OtherSeatsStay at old new → TurnsTaken ended (stops_in stop old) (stops_in stop new)
  taken-behind at old new seen same ended is others =
      subst (λ b. TurnsTaken b (stops_in stop old) (stops_in stop new)) (ap (λ (xs : List (Seat W)). stops_in stop xs at) (sym same) ∙ sym is) (taken-turn at old new others)

  -- turns of the seats of one deal of several
  pub taken-deal : (ended : Bool) (deals : List (Deal W)) (i : ℕ) (old new : Deal W) → slice_get deals i ≡ Some old → TurnsTaken ended (stops_in stop old.seats.items) (stops_in stop new.seats.items)
      → TurnsTaken ended (stops_among stop deals) (stops_among stop (slice_set deals i new))
  taken-deal ended deals i old new at t = record {
    here = λ e. let s = t.here e in ((i, s.0), ap (λ d. deal_stops stop d s.0) same ∙ s.1);
    goes_on = λ e none p. elim (eqb_tells p.0 i) [
      | inl h ↦ mine p h.1 ∙ t.goes_on e (there none) p.1
      | inr h ↦ other p h.1 ∙ none p
    ];
    one = λ none p q a b.
        let x = only none p a in
        let y = only none q b in
        let k = t.one (there none) p.1 q.1 (sym (mine p x) ∙ a) (sym (mine q y) ∙ b) in
        ap (λ n. (n, p.1)) (x ∙ sym y) ∙ ap (λ n. (q.0, n)) k;
  }
    where
      same : slice_get (slice_set deals i new) i ≡ Some new
      same = slice_get-set_same deals i new (slice_get_within deals i old at)

      mine : (p : ℕ × ℕ) → p.0 ≡ i → stops_among stop (slice_set deals i new) p ≡ stops_in stop new.seats.items p.1
      mine p h = ap (λ d. deal_stops stop d p.1) (ap (slice_get (slice_set deals i new)) h ∙ same)

      other : (p : ℕ × ℕ) → p.0 ≢ i → stops_among stop (slice_set deals i new) p ≡ stops_among stop deals p
      other p h = ap (λ d. deal_stops stop d p.1) (slice_get-set_other deals i p.0 new h)

      there : Nowhere (stops_among stop deals) → Nowhere (stops_in stop old.seats.items)
      there none k = sym (ap (λ d. deal_stops stop d k) at) ∙ none (i, k)

      only : Nowhere (stops_among stop deals) → (p : ℕ × ℕ) → stops_among stop (slice_set deals i new) p ≡ true → p.0 ≡ i
      only none p a = elim (eqb_tells p.0 i) [
        | inl h ↦ h.1
        | inr h ↦ absurd (true≢false (sym a ∙ other p h.1 ∙ none p))
      ]

-- whether turns end at a place of a deal, and so of all deals
module _ {W : Type 0} (stop : Stop) (deals : List (Deal W)) (i : ℕ) (d : Deal W) (inside : i < length deals) where
  place-in : (k : ℕ) → stops_among stop deals (i, k) ≡ stops_in stop (slice_index_or deals i d).seats.items k
  place-in k = ap (λ x. deal_stops stop x k) (slice_get-get_or deals i d inside)

  pub some-among : Somewhere (stops_in stop (slice_index_or deals i d).seats.items) → Somewhere (stops_among stop deals)
  some-among s = ((i, s.0), place-in s.0 ∙ s.1)

  pub none-next : ((j k : ℕ) → j < i → stops_among stop deals (j, k) ≡ false) → Nowhere (stops_in stop (slice_index_or deals i d).seats.items) → (j k : ℕ) → j < i + 1 → stops_among stop deals (j, k) ≡ false
  none-next before none j k l = elim (eqb_tells j i) [
    | inl h ↦ ap (λ n. stops_among stop deals (n, k)) h.1 ∙ place-in k ∙ none k
    | inr h ↦ before j k (let e = h.1 in grind (arith, e, l))
  ]

pub none-among : {W : Type 0} (stop : Stop) (deals : List (Deal W)) → ((i k : ℕ) → i < length deals → stops_among stop deals (i, k) ≡ false) → Nowhere (stops_among stop deals)
none-among {W} stop deals none p = by_deal (slice_get deals p.0) refl
  where
    by_deal : (d : Option (Deal W)) → slice_get deals p.0 ≡ d → stops_among stop deals p ≡ false
    by_deal None e = ap (λ x. deal_stops stop x p.1) e
    by_deal (Some d) e = none p.0 p.1 (slice_get_within deals p.0 d e)
