-- Events of a turn, and what holds where none came.
use Rattle.std.specs.Prelude.{◌≡◌, ℕ, ◌+◌, ◌≤◌, List, None, true, false, is_some}
use Rattle.cloud_points.specs.declared.work.Work.{Ghosts}
use Rattle.file_devices.specs.Counts.{Rose}
use Rattle.cloud_points.specs.Events.{is_device, ran_short, IsOf}
use Rattle.network_theory.specs.Flight.{hand_points}
use Rattle.network_theory.specs.Net.{holds_end, IsAllowed, IsQuiet}
use Rattle.network_core.specs.declared.node.Node.{Node}
use Rattle.network_core.specs.Hands.{seen_hand}
use Rattle.network_core.specs.Shown.{shown, choice}

-- of a leaf, the points in its hand and those that it read beyond are together at most a chunk
abbrev pub IsSpare : {W S : Type 0} (g : Ghosts W S) → Node W → Type 0
IsSpare g n = g.leaf n.work ≡ true → hand_points (seen_hand n.hand n.spread.items) + g.ahead n.work ≤ n.chunk

-- a leaf whose end isn't made yet has no fault
abbrev pub IsClean : {W S : Type 0} (g : Ghosts W S) → Node W → Type 0
IsClean g n = g.leaf n.work ≡ true → n.done ≡ false → holds_end (seen_hand n.hand n.spread.items) ≡ false → n.fault ≡ None

-- counts of faults do not fall, and stay where no device's fault stands at the node; want of memory stays noted, a leaf stays one, a work keeps its device's operation, a node its inputs
-- and its first fault, a new fault of a device has its cause and names that operation, and what a leaf reads stays the same
pub record Calm {W S : Type 0} (g : Ghosts W S) (old new : Node W) : Type 0 where
  pub faults : g.faults old.work ≤ g.faults new.work
  pub short : g.short old.work ≡ true → g.short new.work ≡ true
  pub leaf : g.leaf new.work ≡ g.leaf old.work
  pub op : g.op new.work ≡ g.op old.work
  pub inputs : new.inputs ≡ old.inputs
  pub stays : is_some old.fault ≡ true → new.fault ≡ old.fault
  pub cause : is_some old.fault ≡ false → is_device new.fault ≡ true → Rose (g.faults old.work) (g.faults new.work)
  pub named : is_some old.fault ≡ false → IsOf (g.op old.work) new.fault
  pub chunk : new.chunk ≡ old.chunk
  pub extent : g.leaf old.work ≡ true → g.extent new.work ≡ g.extent old.work
  pub spare : IsSpare g old → IsSpare g new
  pub clean : IsClean g old → IsClean g new
  pub kept : IsClean g old → is_device new.fault ≡ false → g.faults new.work ≡ g.faults old.work

-- no device's fault stands at the node, and no want of memory was noted in between
pub record NoEvent {W S : Type 0} (g : Ghosts W S) (old new : Node W) : Type 0 where
  pub fault : is_device new.fault ≡ false
  pub short : ran_short (g.short old.work) (g.short new.work) ≡ false

-- a leaf whose end is not made yet tells what it still gives, and has no fault
abbrev pub Told : {W S : Type 0} (g : Ghosts W S) → Node W → Type 0
Told g n = g.leaf n.work ≡ true → n.done ≡ false → holds_end (seen_hand n.hand n.spread.items) ≡ false → (g.tells n.work ≡ true) × (n.fault ≡ None)

-- a turn's event is one that may be; without an event it is none, and a leaf that tells goes on to tell
pub record Obeys {W S : Type 0} (g : Ghosts W S) (old new : Node W) : Type 0 where
  pub calm : Calm g old new
  pub allowed : (ins : List ℕ) → IsAllowed (choice g old new) (shown g ins old)
  pub quiet : NoEvent g old new → Told g old → (ins : List ℕ) → IsQuiet (choice g old new) (shown g ins old)
  pub told : NoEvent g old new → Told g old → Told g new
