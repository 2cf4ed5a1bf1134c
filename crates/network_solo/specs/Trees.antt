-- Nodes of a tree that are run to their end.
use Rattle.std.specs.Prelude.{◌≡◌, ℕ, true, false, List, [], length, None, Option, Some, slice_get}
use Rattle.cloud_points.specs.declared.point.Point.{Point}
use Rattle.cloud_points.specs.declared.faults.StageFault.{StageFault}
use Rattle.cloud_points.specs.declared.work.Work.{Ghosts}
use Rattle.cloud_points.specs.Flows.{Flow, points}
use Rattle.cloud_points.specs.Marks.{Mark, flow_marks}
use Rattle.cloud_points.specs.Queue.{up_to_limit}
use Rattle.network_theory.specs.Forest.{children}
use Rattle.network_theory.specs.Opening.{IsFresh}
use Rattle.network_theory.specs.Machine.{made_of, fault_on, state_after}
use Rattle.network_theory.specs.Streaming.{input_of}
use Rattle.network_core.specs.declared.node.Node.{Node}
use Rattle.network_core.specs.Shown.{shown, work_of}
use Rattle.network_core.specs.Calm.{Calm, NoEvent}

-- nodes that had no turn yet, each with as many inputs as there are numbers of children for it
abbrev pub AreFresh : {W S : Type 0} → Ghosts W S → List (List ℕ) → List (Node W) → Type 0
AreFresh {W} g ins nodes = (k : ℕ) (n : Node W) → slice_get nodes k ≡ Some n → IsFresh (shown g (children ins k) n)

-- what a work makes of a flow, its fault on that, and its state then
abbrev pub makes_of : {W S : Type 0} → Ghosts W S → W → Flow Point → List (Mark Point)
makes_of g w flow = made_of (g.meaning w) (g.state w) flow

abbrev pub fault_of : {W S : Type 0} → Ghosts W S → W → Flow Point → Option StageFault
fault_of g w flow = fault_on (g.meaning w) (g.state w) flow

abbrev pub state_left : {W S : Type 0} → Ghosts W S → W → Flow Point → S
state_left g w flow = state_after (g.meaning w) (g.state w) flow

-- the flow that node k takes: those of its children, joined in the order of its inputs
abbrev pub input_at : List (List ℕ) → (ℕ → Flow Point) → ℕ → Flow Point
input_at ins value k = input_of value (children ins k)

-- each leaf tells the flow of its number, and each other node makes it of the flow that it takes
pub record Streams {W S : Type 0} (g : Ghosts W S) (ins : List (List ℕ)) (nodes : List (Node W)) (value : ℕ → Flow Point) : Type 0 where
  pub leaf : (k : ℕ) (n : Node W) → slice_get nodes k ≡ Some n → g.leaf (work_of n) ≡ true → g.told (work_of n) ≡ flow_marks (value k)
  pub inner : (k : ℕ) (n : Node W) → slice_get nodes k ≡ Some n → g.leaf (work_of n) ≡ false
      → makes_of g (work_of n) (input_at ins value k) ≡ flow_marks (value k)

-- a node gave on this flow
pub record Gave {W S : Type 0} (g : Ghosts W S) (flow : Flow Point) (n : Node W) : Type 0 where
  pub views : up_to_limit (shown g [] n).views ≡ up_to_limit (length flow.views)
  pub points : up_to_limit (shown g [] n).points ≡ up_to_limit (length (points flow))

-- a node took this flow: it has the fault of its work on that and the state that is left, and without a fault it holds its points
pub record Took {W S : Type 0} (g : Ghosts W S) (flow : Flow Point) (old new : Node W) : Type 0 where
  pub fault : (shown g [] new).machine.fault ≡ fault_of g (work_of old) flow
  pub state : g.state (work_of new) ≡ state_left g (work_of old) flow
  pub holds : (shown g [] new).machine.fault ≡ None → g.holds (work_of old) [] ≡ true → g.holds (work_of new) (points flow) ≡ true

-- how the nodes of a tree end over these flows: a leaf has the fault that it told
pub record EndsOver {W S : Type 0} (g : Ghosts W S) (ins : List (List ℕ)) (old new : List (Node W)) (value : ℕ → Flow Point) : Type 0 where
  pub gave : (k : ℕ) (m : Node W) → slice_get new k ≡ Some m → Gave g (value k) m
  pub told : (k : ℕ) (n m : Node W) → slice_get old k ≡ Some n → slice_get new k ≡ Some m → g.leaf (work_of n) ≡ true
      → (shown g [] m).machine.fault ≡ g.told_fault (work_of n)
  pub took : (k : ℕ) (n m : Node W) → slice_get old k ≡ Some n → slice_get new k ≡ Some m → g.leaf (work_of n) ≡ false
      → Took g (input_at ins value k) n m

-- no event came to any node between these two states
abbrev pub NoneCame : {W S : Type 0} → Ghosts W S → List (Node W) → List (Node W) → Type 0
NoneCame {W} g old new = (k : ℕ) (n m : Node W) → slice_get old k ≡ Some n → slice_get new k ≡ Some m → NoEvent g n m

-- all leaves tell
abbrev pub LeavesTell : {W S : Type 0} → Ghosts W S → List (Node W) → Type 0
LeavesTell {W} g nodes = (k : ℕ) (n : Node W) → slice_get nodes k ≡ Some n → g.leaf (work_of n) ≡ true → g.tells (work_of n) ≡ true

-- the nodes of a tree that was run to its end
pub record IsRanTree {W S : Type 0} (g : Ghosts W S) (ins : List (List ℕ)) (old new : List (Node W)) : Type 0 where
  pub count : length new ≡ length old
  -- each node keeps what its work does, and a device's fault has its cause
  pub work : (k : ℕ) (n m : Node W) → slice_get old k ≡ Some n → slice_get new k ≡ Some m → g.meaning (work_of m) ≡ g.meaning (work_of n)
  pub calm : (k : ℕ) (n m : Node W) → slice_get old k ≡ Some n → slice_get new k ≡ Some m → Calm g n m
  -- without an event, and where all leaves tell, all end as the flows say
  pub ends : NoneCame g old new → LeavesTell g old → (value : ℕ → Flow Point) → Streams g ins old value → EndsOver g ins old new value
