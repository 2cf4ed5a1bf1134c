-- The nodes of one worker, and what they carried.
use Rattle.std.specs.Prelude.{◌≡◌, ℕ, ◌<◌, ◌^◌, nat_lt, true, false, List, [], length, Option, Some, None, is_none, is_some, replicate}
use Rattle.cloud_points.specs.declared.point.Point.{Point}
use Rattle.cloud_points.specs.declared.work.Work.{Ghosts}
use Rattle.cloud_points.specs.Bodies.{bodies}
use Rattle.cloud_points.specs.Marks.{Mark, all_marks}
use Rattle.chunk_queue.specs.Ends.{OutSeen, ended}
use Rattle.network_theory.specs.Between.{Between, QuietBetween}
use Rattle.network_theory.specs.History.{mark_points}
use Rattle.network_theory.specs.Sound.{IsNode}
use Rattle.network_core.specs.declared.node.Node.{Node}
use Rattle.network_core.specs.Calm.{Calm, NoEvent, Told}
use Rattle.network_core.specs.Holding.{HoldsMore}
use Rattle.network_core.specs.Ruled.{HasSent}
use Rattle.network_core.specs.Shown.{shown}
use Rattle.network_workers.specs.declared.seats.Seat.{Seat}
use Rattle.network_workers.specs.declared.seats.SeatIn.{SeatIn}
use Rattle.network_workers.specs.declared.seats.Deal.{Deal}
use Rattle.network_workers.specs.Ends.{end_of, got_of, sent_on, since, OutGrew, EndsGrew, took_of}
use Rattle.network_workers.specs.Lists.{Each, Pairs}

abbrev pub node_of : {W : Type 0} → Seat W → Node W
node_of seat = seat.node

-- what was sent is what the node gave
abbrev pub SentBy : {W S : Type 0} (g : Ghosts W S) → Node W → Option OutSeen → Type 0
SentBy g n None = Unit {0}
SentBy g n (Some out) = HasSent (shown g [] n) out

-- a seat that may take turns: its node is sound, what was sent on its end is what the node gave, each input has an end, and
-- an End was got on just those inputs that ended
pub record IsFit {W S : Type 0} (g : Ghosts W S) (ins : List SeatIn) (at : ℕ) (seat : Seat W) : Type 0 where
  pub sound : IsNode (shown g (replicate (node_of seat).inputs 0) (node_of seat))
  pub sent : SentBy g (node_of seat) seat.out
  pub ends : (k : ℕ) → k < (node_of seat).inputs → is_some (end_of ins at k) ≡ true
  pub closed : (k : ℕ) → k < (node_of seat).inputs → ended (got_of ins at k) ≡ nat_lt k (node_of seat).ended

-- without an event, what a node took is carried to what it gave, which is what was sent but at the root
pub record Quietly {W S : Type 0} (g : Ghosts W S) (old new : Node W) (took : ℕ → List (Mark Point)) (out : Option OutSeen)
    (sent : List (Mark Point)) : Type 0 where
  pub gave : List (Mark Point)
  pub same : is_none out ≡ false → gave ≡ sent
  pub quiet : QuietBetween (shown g [] old) (shown g [] new) took gave
  pub told : Told g new

-- one seat between two of its states, with the ends that it reads
pub record Carries {W S : Type 0} (g : Ghosts W S) (ins ins' : List SeatIn) (at : ℕ) (old new : Seat W) : Type 0 where
  pub stage : new.stage ≡ old.stage
  pub out : OutGrew old.out new.out
  pub calm : Calm g (node_of old) (node_of new)
  pub between : Between (shown g [] (node_of old)) (shown g [] (node_of new)) (took_of at ins ins')
  pub holds : HoldsMore g (node_of old) (node_of new) (mark_points between.took)
  pub quietly : NoEvent g (node_of old) (node_of new) → Told g (node_of old)
      → Quietly g (node_of old) (node_of new) (took_of at ins ins') old.out
      (all_marks (bodies (since (sent_on old.out) (sent_on new.out))))

-- all seats of a deal
abbrev pub AreFit : {W S : Type 0} (g : Ghosts W S) → List SeatIn → List (Seat W) → Type 0
AreFit g ins seats = Each (IsFit g ins) seats

pub record SeatsCarry {W S : Type 0} (g : Ghosts W S) (ins ins' : List SeatIn) (old new : List (Seat W)) : Type 0 where
  pub ends : EndsGrew ins ins'
  pub seats : Pairs (Carries g ins ins') old new

-- all deals
abbrev pub DealFits : {W S : Type 0} (g : Ghosts W S) → Deal W → Type 0
DealFits g deal = AreFit g deal.ins.items deal.seats.items

abbrev pub DealCarries : {W S : Type 0} (g : Ghosts W S) → Deal W → Deal W → Type 0
DealCarries g old new = SeatsCarry g old.ins.items new.ins.items old.seats.items new.seats.items

abbrev pub DealsFit : {W S : Type 0} (g : Ghosts W S) → List (Deal W) → Type 0
DealsFit g deals = Each (λ i deal. DealFits g deal) deals

abbrev pub DealsCarry : {W S : Type 0} (g : Ghosts W S) → List (Deal W) → List (Deal W) → Type 0
DealsCarry g old new = Pairs (λ i before after. DealCarries g before after) old new

-- all nodes are done
abbrev pub AreDone : {W : Type 0} → List (Seat W) → Type 0
AreDone seats = Each (λ k seat. (node_of seat).done ≡ true) seats

abbrev pub DealsDone : {W : Type 0} → List (Deal W) → Type 0
DealsDone deals = Each (λ i deal. AreDone deal.seats.items) deals

-- no deal has so many seats that their places are no numbers of seats
abbrev pub AreFew : {W : Type 0} → List (Deal W) → Type 0
AreFew deals = Each (λ i deal. length deal.seats.items < 2 ^ 32) deals
