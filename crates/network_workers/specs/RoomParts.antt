-- What the memory of several workers consists of.
use Rattle.std.specs.Prelude.{◌≡◌, ℕ, List, length}
use Rattle.chunk_queue.specs.Ends.{InSeen, OutSeen}
use Rattle.network_workers.specs.declared.rooms.WorkerRoom.{WorkerRoom}
use Rattle.network_workers.specs.Rooms.{HaveCapacity, present}

-- how many nodes it is for, and how many workers
abbrev pub nodes_in : {W : Type 0} → WorkerRoom W → ℕ
nodes_in room = length room.outs.items

abbrev pub workers_in : {W : Type 0} → WorkerRoom W → ℕ
workers_in room = length room.deals.items

-- for each node the worker to whom it goes
abbrev pub takers_in : {W : Type 0} → WorkerRoom W → List ℕ
takers_in room = room.takers.items

-- the two ends of the queue above each node but the root
abbrev pub outs_of : {W : Type 0} → WorkerRoom W → List OutSeen
outs_of room = present room.outs.items

abbrev pub inns_of : {W : Type 0} → WorkerRoom W → List InSeen
inns_of room = present room.inns.items

-- each queue between them has room for so many items
abbrev pub HasQueues : {W : Type 0} → ℕ → WorkerRoom W → Type 0
HasQueues queue room = HaveCapacity queue room.outs.items

-- it is for so many nodes, over queues with room for so many items
abbrev pub IsRoomFor : {W : Type 0} → ℕ → ℕ → WorkerRoom W → Type 0
IsRoomFor nodes queue room = (nodes_in room ≡ nodes) × HasQueues queue room
