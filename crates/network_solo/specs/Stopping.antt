-- Nets whose turns end at a fault.
use Rattle.std.specs.Prelude.{◌≡◌, ◌≤◌, ◌⊎◌, ⊤, ℕ, Bool, true, false, cond, List, [], ◌∷◌, length, Option, Some, None, is_some, slice_get}
use Rattle.cloud_points.specs.declared.point.Point.{Point}
use Rattle.cloud_points.specs.declared.faults.StageFault.{StageFault}
use Rattle.cloud_points.specs.declared.work.Work.{Ghosts}
use Rattle.cloud_points.specs.Flows.{Flow}
use Rattle.cloud_points.specs.Meaning.{KeepsCutting}
use Rattle.network_theory.specs.Net as net
use Rattle.network_theory.specs.Ahead.{AreClean}
use Rattle.network_theory.specs.Opening.{IsSpent}
use Rattle.network_core.specs.declared.node.Node.{Node}
use Rattle.network_core.specs.declared.net.Net.{Net}
use Rattle.network_core.specs.declared.stop.Stop.{Stop}
use Rattle.network_core.specs.declared.stop.Stop.TheVariants.{Last, First}
use Rattle.network_core.specs.Calm.{Calm}
use Rattle.network_core.specs.Shown.{shown, work_of}
use Rattle.network_core.specs.Nets.{net_of, root_of, capacity_of}
use Rattle.network_solo.specs.Runs.{HadTurns, NoEvents, AllTold, IsRunToEnd}
use Rattle.network_solo.specs.Trees.{Streams, NoneCame, LeavesTell, input_at, fault_of}

-- whether turns end behind one after which a node has this fault or none
abbrev pub stops_at : Stop → Option StageFault → Bool
stops_at Last fault = false
stops_at First fault = is_some fault

-- one of these nodes has a fault
abbrev pub SomeFault : {W S : Type 0} (g : Ghosts W S) → List (Node W) → Type 0
SomeFault {W} g nodes = (k : ℕ) × (x : Node W) × (slice_get nodes k ≡ Some x) × (is_some (shown g [] x).machine.fault ≡ true)

-- all of these nodes are done
abbrev pub AllDone : {W S : Type 0} (g : Ghosts W S) → List (Node W) → Type 0
AllDone {W} g nodes = (k : ℕ) (x : Node W) → slice_get nodes k ≡ Some x → (shown g [] x).done ≡ true

-- none of these nodes has a fault
abbrev pub NoneFaulty : {W S : Type 0} (g : Ghosts W S) → List (Node W) → Type 0
NoneFaulty {W} g nodes = (k : ℕ) (x : Node W) → slice_get nodes k ≡ Some x → (shown g [] x).machine.fault ≡ None

-- turns that end like this came to the end of all: always, or where no node has a fault
abbrev pub CameToEnd : {W S : Type 0} (g : Ghosts W S) → Stop → List (Node W) → Type 0
CameToEnd g Last nodes = ⊤
CameToEnd g First nodes = NoneFaulty g nodes

-- where turns end: all nodes are done, or one has a fault
abbrev pub IsOver : {W S : Type 0} (g : Ghosts W S) → Stop → Net W → Type 0
IsOver g Last n = IsRunToEnd g n
IsOver g First n = IsRunToEnd g n ⊎ SomeFault g n.nodes.items

-- none of these turns came after a fault at which they end
abbrev pub CameInTime : {W S : Type 0} (g : Ghosts W S) → Stop → (old now : Net W) → HadTurns g (root_of old) old now → Type 0
CameInTime g Last old now had = ⊤
CameInTime {W} {S} g First old now had = (beyond : net.Node S Point StageFault) → IsSpent beyond → AreClean (net_of g beyond old) (root_of old) (capacity_of old) had.schedule

-- the turns that a net had, none of them too late
pub record HadInTime {W S : Type 0} (g : Ghosts W S) (stop : Stop) (old now : Net W) : Type 0 where
  pub turns : HadTurns g (root_of old) old now
  pub in_time : CameInTime g stop old now turns

-- without an event, each fault of a node is the one that was to come at the start
abbrev pub FaultsToCome : {W S : Type 0} (g : Ghosts W S) → Net W → Net W → Type 0
FaultsToCome {W} {S} g old now = NoEvents g old now → AllTold g old → (beyond : net.Node S Point StageFault) → IsSpent beyond → KeepsCutting beyond.work →
    (k : ℕ) (x : Node W) (f : StageFault) → slice_get now.nodes.items k ≡ Some x → (shown g [] x).machine.fault ≡ Some f → (net.rest (net_of g beyond old) k).fault ≡ Some f

-- the fault that is to come to a node over these flows: a leaf's is told, another's is that of its work on all that it takes
abbrev pub fault_to_come : {W S : Type 0} → Ghosts W S → List (List ℕ) → (ℕ → Flow Point) → ℕ → Node W → Option StageFault
fault_to_come g ins value k n = cond (g.leaf (work_of n)) (g.told_fault (work_of n)) (fault_of g (work_of n) (input_at ins value k))

-- the nodes of a tree that took turns until all were done or one had a fault
pub record IsStoppedTree {W S : Type 0} (g : Ghosts W S) (ins : List (List ℕ)) (old new : List (Node W)) : Type 0 where
  pub count : length new ≡ length old
  -- each node keeps what its work does, and a device's fault has its cause
  pub work : (k : ℕ) (n m : Node W) → slice_get old k ≡ Some n → slice_get new k ≡ Some m → g.meaning (work_of m) ≡ g.meaning (work_of n)
  pub calm : (k : ℕ) (n m : Node W) → slice_get old k ≡ Some n → slice_get new k ≡ Some m → Calm g n m
  pub over : AllDone g new ⊎ SomeFault g new
  -- without an event, and where all leaves tell, each fault of a node is the one that is to come over the flows
  pub faults : NoneCame g old new → LeavesTell g old → (value : ℕ → Flow Point) → Streams g ins old value
      → (k : ℕ) (n m : Node W) (f : StageFault) → slice_get old k ≡ Some n → slice_get new k ≡ Some m
      → (shown g [] m).machine.fault ≡ Some f → fault_to_come g ins value k n ≡ Some f
