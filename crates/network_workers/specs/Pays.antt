-- What is owed by the nodes of deals, and what is paid for it.
use Rattle.std.specs.Prelude.{ℕ, ◌+◌, ◌*◌, ◌≤◌, List, [], ◌∷◌, length}
use Rattle.std.proofs.Common.{suc}
use Rattle.cloud_points.specs.declared.work.Work.{Ghosts}
use Rattle.network_theory.specs.Net.{owes}
use Rattle.network_core.specs.Shown.{shown}
use Rattle.network_workers.specs.declared.seats.Seat.{Seat}
use Rattle.network_workers.specs.declared.seats.SeatIn.{SeatIn}
use Rattle.network_workers.specs.declared.seats.Deal.{Deal}
use Rattle.network_workers.specs.Ends.{sent_on}
use Rattle.network_workers.specs.Seats.{node_of}

-- what a node this far below the root owes, with all that it sent
abbrev pub seat_owes : {W S : Type 0} → Ghosts W S → ℕ → Seat W → ℕ
seat_owes g below seat = owes below (shown g [] (node_of seat)) + 2 * below * length (sent_on seat.out)

-- what was got on an end stood on the edge below the node that reads it
abbrev pub end_pays : (ℕ → ℕ) → SeatIn → ℕ
end_pays below e = (2 * below e.seat + 2) * length e.end.got

-- the sums over the seats and the ends of a deal, where this is how far the seat at each place is below the root
abbrev pub seats_owe : {W S : Type 0} → Ghosts W S → (ℕ → ℕ) → List (Seat W) → ℕ
seats_owe g below [] = 0
seats_owe g below (x ∷ xs) = seat_owes g (below 0) x + seats_owe g (λ k. below (suc k)) xs

abbrev pub ends_pay : (ℕ → ℕ) → List SeatIn → ℕ
ends_pay below [] = 0
ends_pay below (x ∷ xs) = end_pays below x + ends_pay below xs

-- and over all deals
abbrev pub deals_owe : {W S : Type 0} → Ghosts W S → (ℕ → ℕ → ℕ) → List (Deal W) → ℕ
deals_owe g below [] = 0
deals_owe g below (d ∷ ds) = seats_owe g (below 0) d.seats.items + deals_owe g (λ i. below (suc i)) ds

abbrev pub deals_pay : {W : Type 0} → (ℕ → ℕ → ℕ) → List (Deal W) → ℕ
deals_pay below [] = 0
deals_pay below (d ∷ ds) = ends_pay (below 0) d.ins.items + deals_pay (λ i. below (suc i)) ds

-- wherever the nodes stand below the root, the turns that were counted lowered what is owed, each by one at least, but for
-- what was got in between
abbrev pub SeatsPaid : {W S : Type 0} → Ghosts W S → ℕ → ℕ → List SeatIn → List SeatIn → List (Seat W) → List (Seat W)
    → Type 0
SeatsPaid g first last ins ins' old new = (below : ℕ → ℕ)
    → last + seats_owe g below new + ends_pay below ins ≤ first + seats_owe g below old + ends_pay below ins'

abbrev pub DealsPaid : {W S : Type 0} → Ghosts W S → ℕ → ℕ → List (Deal W) → List (Deal W) → Type 0
DealsPaid g first last old new = (below : ℕ → ℕ → ℕ)
    → last + deals_owe g below new + deals_pay below old ≤ first + deals_owe g below old + deals_pay below new
