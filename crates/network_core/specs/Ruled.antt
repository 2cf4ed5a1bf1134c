-- Turns over the ends of queues between threads.
use Rattle.std.specs.Prelude.{◌≡◌, ℕ, ◌+◌, ◌<◌, cond, Bool, true, false, List, [], ◌∷◌, ◌++◌, length, drop}
use Rattle.cloud_points.specs.declared.point.Point.{Point}
use Rattle.cloud_points.specs.declared.item.Item as code
use Rattle.cloud_points.specs.declared.faults.StageFault.{StageFault}
use Rattle.cloud_points.specs.declared.work.Work.{Ghosts}
use Rattle.cloud_points.specs.Bodies.{bodies}
use Rattle.cloud_points.specs.Marks.{Mark, Item, all_marks}
use Rattle.cloud_points.specs.Queue.{up_to_limit}
use Rattle.chunk_queue.specs.Ends.{InSeen, OutSeen, in_seen, out_seen, ended, HadRoom, WasFull, WasEmpty, WasFirst}
use Rattle.network_theory.specs.Carried.{Carried, only_input}
use Rattle.network_theory.specs.History.{all_item_points}
use Rattle.network_theory.specs.Sound.{IsNode}
use Rattle.network_theory.specs.Net as net
use Rattle.network_core.specs.declared.node.Node.{Node}
use Rattle.network_core.specs.declared.turned.Turned.{Turned}
use Rattle.network_core.specs.declared.turned.Turned.TheVariants.{Took, Gave, Made, Idle, Done}
use Rattle.network_core.specs.declared.turned.Why.TheVariants.{Empty, Full}
use Rattle.network_core.specs.Calm.{NoEvent, Told, Obeys}
use Rattle.network_core.specs.Holding.{HoldsMore}
use Rattle.network_core.specs.Shown.{shown, choice, left, turned}

-- what was taken from an end, and what was sent on one, between two of its states
abbrev pub taken : InSeen → InSeen → List code.Item
taken old new = drop (length old.got) new.got

abbrev pub sent : OutSeen → OutSeen → List code.Item
sent old new = drop (length old.sent) new.sent

-- what the queues may have held at the step of a turn, apart from what it took and sent
pub record MayHave (reads : Bool) (t : net.Turned) (cap : ℕ) (rest out : List (Item Point)) : Type 0 where
  -- a turn that reads no queue
  pub none : reads ≡ false → rest ≡ []
  pub empty : t ≡ net.Idle net.Empty → rest ≡ []
  pub room : t ≡ net.Gave → length out < cap
  pub full : t ≡ net.Idle net.Full → length out ≡ cap

-- whatever the queues held, what was done is the turn
abbrev pub IsTurn : {S : Type 0} → Bool → Bool → net.Choice S Point StageFault → net.Node S Point StageFault → net.Node S Point StageFault → Turned → List code.Item → List code.Item → Type 0
IsTurn root reads ch old new t took gave = (cap : ℕ) (rest out : List (Item Point)) → MayHave reads (turned t) cap rest out
    → left new rest (out ++ bodies gave) t ≡ net.turn root cap ch old (bodies took ++ rest) out

-- so it is of a node of the code
abbrev pub IsRuledRow : {W S : Type 0} (g : Ghosts W S) → Bool → Bool → Node W → Node W → Turned → List code.Item → List code.Item → Type 0
IsRuledRow g root reads old new t took gave = (ins : List ℕ) → IsTurn root reads (choice g old new) (shown g ins old) (shown g ins new) t took gave

-- an end that takes, before and after a turn
pub record Takes (old new : InSeen) (t : net.Turned) : Type 0 where
  pub grows : new ≡ in_seen old.queue old.capacity (old.got ++ taken old new)
  pub first : t ≡ net.Took → (i : code.Item) × (taken old new ≡ i ∷ []) × WasFirst old i
  pub empty : t ≡ net.Idle net.Empty → WasEmpty old

-- an end that sends, before and after a turn
pub record Sends (old new : OutSeen) (t : net.Turned) : Type 0 where
  pub grows : new ≡ out_seen old.queue old.capacity (old.sent ++ sent old new)
  pub room : t ≡ net.Gave → HadRoom old
  pub full : t ≡ net.Idle net.Full → WasFull old

-- what was sent on an end is what the node gave
pub record HasSent {S P F : Type 0} (n : net.Node S P F) (out : OutSeen) : Type 0 where
  pub number : n.sent ≡ up_to_limit (length out.sent)
  pub ended : ended out.sent ≡ n.done

-- a turn that read a queue, and one that gave to one
abbrev pub is_read : Turned → Bool
is_read Took = true
is_read (Idle Empty) = true
is_read (Idle Full) = false
is_read Gave = false
is_read Made = false
is_read Done = false

abbrev pub is_gift : Turned → Bool
is_gift Gave = true
is_gift (Idle Full) = true
is_gift (Idle Empty) = false
is_gift Took = false
is_gift Made = false
is_gift Done = false

-- between two states of a node what was taken is carried to what was given: to what was sent, but at the root
pub record CarriesOver {S P F : Type 0} (root : Bool) (old new : net.Node S P F) (a : ℕ → List (Mark P)) (sent : List (Item P)) : Type 0 where
  pub b : List (Mark P)
  pub gave : root ≡ false → b ≡ all_marks sent
  pub carried : Carried old new a b

-- an input ends where its End was taken
abbrev pub Closes : {S P F : Type 0} → InSeen → InSeen → net.Node S P F → net.Node S P F → Type 0
Closes inn inn' old new = IsNode old → ended inn.got ≡ false → new.machine.ended ≡ cond (ended inn'.got) (old.machine.ended + 1) old.machine.ended

-- what a turn of a node over ends is, by what was taken and sent: it is the turn, its event is one that may be, its sink holds
-- what it took, and it keeps the node sound; without an event it carries what was taken to what was given
pub record RuledTurn {W S : Type 0} (g : Ghosts W S) (root reads : Bool) (old new : Node W) (t : Turned) (took gave : List code.Item) : Type 0 where
  pub row : IsRuledRow g root reads old new t took gave
  pub obeys : Obeys g old new
  pub holds : HoldsMore g old new (all_item_points (bodies took))
  pub sound : (ins : List ℕ) → IsNode (shown g ins old) → IsNode (shown g ins new)
  pub carried : NoEvent g old new → Told g old → (ins : List ℕ) → IsNode (shown g ins old) → CarriesOver root (shown g ins old) (shown g ins new) (only_input old.ended (bodies took)) (bodies gave)
