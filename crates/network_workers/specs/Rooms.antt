-- The memory in which the nodes of a tree take turns on several threads.
use Rattle.std.specs.Prelude.{◌≡◌, ℕ, ◌+◌, ◌-◌, ◌^◌, ◌<◌, ◌≤◌, true, List, [], ◌∷◌, ◌++◌, length, map, Option, Some, None, is_some, slice_get, slice_index_or, vec_len, vec_capacity}
use Rattle.chunk_queue.specs.Ends.{InSeen, OutSeen}
use Rattle.network_theory.specs.Forest.{count_in}
use Rattle.network_workers.specs.declared.seats.Seat.{Seat}
use Rattle.network_workers.specs.declared.seats.Deal.{Deal}
use Rattle.network_workers.specs.Dealt.{Place, Hand, AreOpened, AreWorkers, add_some, empty_hand, hand_of}
use Rattle.network_workers.specs.Lists.{Each}

-- those that are there
abbrev pub present : {X : Type 0} → List (Option X) → List X
present [] = []
present (x ∷ xs) = add_some x (present xs)

-- the end above a node, where it is still there
abbrev pub end_at : List (Option InSeen) → ℕ → Option InSeen
end_at inns c = slice_index_or inns c None

-- the ends above these nodes that are still there
abbrev pub ends_at : List (Option InSeen) → List ℕ → List InSeen
ends_at inns [] = []
ends_at inns (c ∷ cs) = add_some (end_at inns c) (ends_at inns cs)

-- how many ends are still there
abbrev pub left : List (Option InSeen) → ℕ
left inns = length (present inns)

-- the ends above these nodes are there, and none of the nodes stands twice among them
abbrev pub AreThere : List (Option InSeen) → List ℕ → Type 0
AreThere inns cs = (c : ℕ) → (0 < count_in c cs → is_some (end_at inns c) ≡ true) × (count_in c cs ≤ 1)

-- the ends above all other nodes stay
abbrev pub OthersStay : List ℕ → List (Option InSeen) → List (Option InSeen) → Type 0
OthersStay cs old new = (c : ℕ) → count_in c cs ≡ 0 → end_at new c ≡ end_at old c

-- the place of a seat with the ends of its inputs
abbrev pub place_of : {W : Type 0} → Seat W → List InSeen → Place W
place_of seat ins = record { stage = seat.stage; node = seat.node; out = seat.out; ins = ins }

-- the hands of these deals
abbrev pub hands_of : {W : Type 0} → List (Deal W) → List (Hand W)
hands_of deals = map hand_of deals

-- a worker has room for a seat more
abbrev pub HasSeat : {W : Type 0} → Deal W → Type 0
HasSeat deal = (length deal.seats.items < vec_capacity deal.seats) × (length deal.seats.items < 2 ^ 32)

-- a worker has room for so many ends besides those that it has
abbrev pub HasEnds : {W : Type 0} → ℕ → Deal W → Type 0
HasEnds more deal = length deal.ins.items + more ≤ vec_capacity deal.ins

-- a worker has room for the seats of all nodes that go to it, and for so many ends besides those that it has
pub record HasRoom {W : Type 0} (goes : List ℕ) (worker more : ℕ) (deal : Deal W) : Type 0 where
  pub seats : count_in worker goes ≤ vec_capacity deal.seats
  pub ins : HasEnds more deal

-- and all workers have
abbrev pub HaveRoom : {W : Type 0} → List ℕ → ℕ → List (Deal W) → Type 0
HaveRoom goes more deals = Each (λ i deal. HasRoom goes i more deal) deals

-- a worker without a node, with room for so many seats and so many ends
pub record IsIdle {W : Type 0} (seats ends : ℕ) (deal : Deal W) : Type 0 where
  pub none : vec_len deal.seats ≡ 0
  pub hand : hand_of deal ≡ empty_hand
  pub room : (vec_capacity deal.seats ≡ seats) × (vec_capacity deal.ins ≡ ends)

-- the two ends of the queue above each of so many nodes but the last one, the root
pub record AreNewEnds (nodes : ℕ) (outs : List (Option OutSeen)) (inns : List (Option InSeen)) : Type 0 where
  pub count : length outs ≡ nodes
  pub outs_are : outs ≡ map Some (present outs) ++ None ∷ []
  pub inns_are : inns ≡ map Some (present inns)
  pub opened : AreOpened (nodes - 1) (present outs) (present inns)

-- each of these ends sends to a queue with room for so many items
abbrev pub HaveCapacity : ℕ → List (Option OutSeen) → Type 0
HaveCapacity queue outs = (k : ℕ) (out : OutSeen) → slice_get outs k ≡ Some (Some out) → out.capacity ≡ queue

-- a list of that many ends with room for as many, and workers without a node that have room for those that go to them, and for all
-- ends
pub record IsRoom {W : Type 0} (held : ℕ) (goes : List ℕ) (outs : List (Option OutSeen)) (inns : List (Option InSeen))
    (deals : List (Deal W)) : Type 0 where
  pub some : (0 < length outs) × (0 < length deals)
  pub few : (length outs ≤ 64) × (length deals ≤ 32)
  pub capacity : length outs ≤ held
  pub ends : AreNewEnds (length outs) outs inns
  pub idle : Each (λ i deal. (vec_len deal.seats ≡ 0) × (hand_of deal ≡ empty_hand)) deals
  pub takers : (length goes ≡ length outs) × AreWorkers (length deals) goes
  pub room : HaveRoom goes (left inns) deals
