-- The nodes of a tree at their places, and how they are dealt to workers.
use Rattle.std.specs.Prelude.{◌≡◌, ℕ, ◌%◌, ◌<◌, Bool, List, [], ◌∷◌, ◌++◌, length, map, take, Option, Some, None, replicate, slice_get, slice_index_or, slice_set}
use Rattle.std.specs.List.{count_by, range_with_len}
use Rattle.std.proofs.Common.{suc}
use Rattle.cloud_points.specs.declared.work.Work.{Ghosts}
use Rattle.chunk_queue.specs.Ends.{InSeen, OutSeen}
use Rattle.network_core.specs.declared.node.Node.{Node}
use Rattle.network_theory.specs.Forest.{children}
use Rattle.network_workers.specs.declared.seats.Seat.{Seat}
use Rattle.network_workers.specs.declared.seats.SeatIn.{SeatIn}
use Rattle.network_workers.specs.declared.seats.Deal.{Deal}
use Rattle.network_workers.specs.Seats.{SeatsCarry}

-- a node with its ends: the one on which it sends, and those of its inputs, in their order
pub record Place (W : Type 0) : Type 0 where
  pub stage : ℕ
  pub node : Node W
  pub out : Option OutSeen
  pub ins : List InSeen

abbrev pub seat_of : {W : Type 0} → Place W → Seat W
seat_of x = record { stage = x.stage; node = x.node; out = x.out }

-- the ends of the inputs of the seat at a place, from this input on
abbrev pub entries : ℕ → ℕ → List InSeen → List SeatIn
entries seat input [] = []
entries seat input (e ∷ es) = record { seat = seat; input = input; end = e } ∷ entries seat (suc input) es

-- the seats and the ends of a deal
pub record Hand (W : Type 0) : Type 0 where
  pub seats : List (Seat W)
  pub ins : List SeatIn

abbrev pub hand_of : {W : Type 0} → Deal W → Hand W
hand_of deal = record { seats = deal.seats.items; ins = deal.ins.items }

abbrev pub empty_hand : {W : Type 0} → Hand W
empty_hand = record { seats = []; ins = [] }

-- with one node more, as the last
abbrev pub with_place : {W : Type 0} → Place W → Hand W → Hand W
with_place x hand =
    record { seats = hand.seats ++ seat_of x ∷ []; ins = hand.ins ++ entries (length hand.seats) 0 x.ins }

-- how many of a tree's nodes are its own, as is said of each node. The others are leaves that give nothing
abbrev pub own_count : List Bool → ℕ
own_count own = count_by (λ is. is) own

-- for each node the worker to whom it goes, of so many: it is the number of own nodes before it modulo theirs. So own nodes go to
-- workers in turn
abbrev pub workers_for : ℕ → List Bool → List ℕ
workers_for workers own = map (λ place. own_count (take place own) % workers) (range_with_len 0 (length own))

-- the worker to whom the node at a place goes
abbrev pub worker_at : List ℕ → ℕ → ℕ
worker_at goes place = slice_index_or goes place 0

-- each node goes to one of so many workers
abbrev pub AreWorkers : ℕ → List ℕ → Type 0
AreWorkers workers goes = (place : ℕ) → worker_at goes place < workers

-- the nodes from this place on, the last one first, dealt to so many workers, each to the one to whom it goes
abbrev pub dealt : {W : Type 0} → List ℕ → ℕ → ℕ → List (Place W) → List (Hand W)
dealt goes workers place [] = replicate workers empty_hand
dealt goes workers place (x ∷ xs) =
    slice_set (dealt goes workers (suc place) xs) (worker_at goes place)
    (with_place x (slice_index_or (dealt goes workers (suc place) xs) (worker_at goes place) empty_hand))

-- an element more, where there is one
abbrev pub add_some : {X : Type 0} → Option X → List X → List X
add_some None xs = xs
add_some (Some x) xs = x ∷ xs

-- of these ends those above the children of a node, in the order of its inputs
abbrev pub picked : List InSeen → List ℕ → List InSeen
picked inns [] = []
picked inns (c ∷ cs) = add_some (slice_get inns c) (picked inns cs)

-- the nodes from a place on, each with its ends: the one above it, which the root lacks, and those above its children
abbrev pub places : {W : Type 0} → ℕ → List (Node W) → List (List ℕ) → List OutSeen → List InSeen → List (Place W)
places place [] ins outs inns = []
places place (n ∷ ns) ins outs inns =
    record { stage = place; node = n; out = slice_get outs place; ins = picked inns (children ins place) }
    ∷ places (suc place) ns ins outs inns

-- the two ends of the queue above each node but the root, on which nothing was sent yet
pub record AreOpened (root : ℕ) (outs : List OutSeen) (inns : List InSeen) : Type 0 where
  pub count : (length outs ≡ root) × (length inns ≡ root)
  pub same : (k : ℕ) (out : OutSeen) (inn : InSeen) → slice_get outs k ≡ Some out → slice_get inns k ≡ Some inn
      → out.queue ≡ inn.queue
  pub nothing : (k : ℕ) (out : OutSeen) (inn : InSeen) → slice_get outs k ≡ Some out → slice_get inns k ≡ Some inn
      → (out.sent ≡ []) × (inn.got ≡ [])

-- the deals of so many workers carried what was dealt to them
pub record HandsCarry {W S : Type 0} (g : Ghosts W S) (hands : List (Hand W)) (deals : List (Deal W)) : Type 0 where
  pub len : length deals ≡ length hands
  pub each : (i : ℕ) (hand : Hand W) (deal : Deal W) → i < length hands
      → SeatsCarry g (slice_index_or hands i hand).ins (slice_index_or deals i deal).ins.items
      (slice_index_or hands i hand).seats (slice_index_or deals i deal).seats.items
