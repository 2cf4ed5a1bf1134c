-- Where turns on the nodes of workers end.
use Rattle.std.specs.Prelude.{◌≡◌, ◌≢◌, ◌⊎◌, ℕ, Bool, true, false, List, Option, Some, None, slice_get}
use Rattle.network_core.specs.declared.stop.Stop.{Stop}
use Rattle.network_core.specs.declared.stop.Stop.TheVariants.{Last, First}
use Rattle.network_solo.specs.Stopping.{stops_at}
use Rattle.network_workers.specs.declared.seats.Seat.{Seat}
use Rattle.network_workers.specs.declared.seats.Deal.{Deal}
use Rattle.network_workers.specs.Seats.{node_of, DealsDone}
use Rattle.network_workers.specs.Lists.{Pairs}

-- whether turns end behind one of a seat, as its node has a fault or none
abbrev pub seat_stops : {W : Type 0} → Stop → Option (Seat W) → Bool
seat_stops stop None = false
seat_stops stop (Some seat) = stops_at stop (node_of seat).fault

-- whether they end behind one of the seat at a place, of one deal and of all deals
abbrev pub stops_in : {W : Type 0} → Stop → List (Seat W) → ℕ → Bool
stops_in stop seats place = seat_stops stop (slice_get seats place)

abbrev pub deal_stops : {W : Type 0} → Stop → Option (Deal W) → ℕ → Bool
deal_stops stop None place = false
deal_stops stop (Some deal) place = stops_in stop deal.seats.items place

abbrev pub stops_among : {W : Type 0} → Stop → List (Deal W) → ℕ × ℕ → Bool
stops_among stop deals place = deal_stops stop (slice_get deals place.0) place.1

-- it is so of a place, of none, and of no two of them
abbrev pub Somewhere : {P : Type 0} → (P → Bool) → Type 0
Somewhere {P} is = (p : P) × (is p ≡ true)

abbrev pub Nowhere : {P : Type 0} → (P → Bool) → Type 0
Nowhere {P} is = (p : P) → is p ≡ false

abbrev pub AtMostOnce : {P : Type 0} → (P → Bool) → Type 0
AtMostOnce {P} is = (p q : P) → is p ≡ true → is q ≡ true → p ≡ q

-- turns that were taken while they ended at no place, and whether they ended: then a place at which they do came last
pub record TurnsTaken {P : Type 0} (ended : Bool) (old new : P → Bool) : Type 0 where
  pub here : ended ≡ true → Somewhere new
  pub goes_on : ended ≡ false → Nowhere old → Nowhere new
  pub one : Nowhere old → AtMostOnce new

-- no turn came after one behind which turns end: where there was such a place before, all is as it was, and otherwise no
-- two of them came
pub record EndedInTime {P X : Type 0} (stops : X → P → Bool) (old new : X) : Type 0 where
  pub stays : Somewhere (stops old) → new ≡ old
  pub one : Nowhere (stops old) → AtMostOnce (stops new)

abbrev pub DealEnded : {W : Type 0} → Stop → Deal W → Deal W → Type 0
DealEnded stop old new = EndedInTime (λ deal. stops_in stop deal.seats.items) old new

-- each deal for itself
abbrev pub DealsEnded : {W : Type 0} → Stop → List (Deal W) → List (Deal W) → Type 0
DealsEnded stop old new = Pairs (λ i before after. DealEnded stop before after) old new

-- where turns on all deals end: all nodes are done, or one of them has a fault
abbrev pub DealsOver : {W : Type 0} → Stop → List (Deal W) → Type 0
DealsOver Last deals = DealsDone deals
DealsOver First deals = DealsDone deals ⊎ Somewhere (stops_among First deals)

-- all seats but that at a place are as they were
abbrev pub OtherSeatsStay : {W : Type 0} → ℕ → List (Seat W) → List (Seat W) → Type 0
OtherSeatsStay at old new = (k : ℕ) → k ≢ at → slice_get new k ≡ slice_get old k
