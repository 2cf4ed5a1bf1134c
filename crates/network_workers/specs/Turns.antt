-- One turn of a seat.
use Rattle.std.specs.Prelude.{◌≡◌, ◌≢◌, ℕ, ◌+◌, ◌≤◌, cond, List, Option, is_none, is_some}
use Rattle.cloud_points.specs.declared.work.Work.{Ghosts}
use Rattle.chunk_queue.specs.Ends.{InSeen}
use Rattle.network_core.specs.declared.turned.Turned.{Turned}
use Rattle.network_core.specs.Ruled.{RuledTurn}
use Rattle.network_core.specs.Shown.{turned}
use Rattle.network_theory.specs.Net.{works}
use Rattle.network_workers.specs.declared.seats.Seat.{Seat}
use Rattle.network_workers.specs.declared.seats.SeatIn.{SeatIn}
use Rattle.network_workers.specs.Ends.{end_of, got_on, sent_on, since, OutGrew, EndGrew, EndsGrew}
use Rattle.network_workers.specs.Pays.{seat_owes, ends_pay}
use Rattle.network_workers.specs.Seats.{IsFit, Carries, node_of}

-- a turn of a node between the end of its current input, where it has one, and the end on which it sends
pub record IsSeatTurn {W S : Type 0} (g : Ghosts W S) (old new : Seat W) (input input' : Option InSeen) (t : Turned)
    : Type 0 where
  pub stage : new.stage ≡ old.stage
  pub turn : RuledTurn g (is_none old.out) (is_some input) (node_of old) (node_of new) t
      (since (got_on input) (got_on input')) (since (sent_on old.out) (sent_on new.out))
  pub read : EndGrew input input'
  pub out : OutGrew old.out new.out

-- a turn of the seat at a place, with the ends of all seats of its deal
pub record CarriesTurn {W S : Type 0} (g : Ghosts W S) (at : ℕ) (ins ins' : List SeatIn) (old new : Seat W) (t : Turned)
    : Type 0 where
  pub fit : IsFit g ins' at new
  pub carries : Carries g ins ins' at old new
  pub ends : EndsGrew ins ins'
  -- the ends of other seats stay
  pub others : (seat input : ℕ) → seat ≢ at → end_of ins' seat input ≡ end_of ins seat input
  -- a turn that does work lowers what is owed, but for what it took
  pub pays : (below : ℕ → ℕ) → cond (works (turned t)) 1 0 + seat_owes g (below at) new + ends_pay below ins
      ≤ seat_owes g (below at) old + ends_pay below ins'
