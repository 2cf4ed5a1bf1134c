-- A net of the code as a net of the definitions.
use Rattle.std.specs.Prelude.{◌≡◌, ◌≢◌, ℕ, ◌-◌, ◌<◌, List, Option, Some, None, length, slice_get}
use Rattle.circular_buffer.specs.Buffer.{Buffer}
use Rattle.cloud_points.specs.declared.point.Point.{Point}
use Rattle.cloud_points.specs.declared.item.Item as code
use Rattle.cloud_points.specs.declared.faults.StageFault.{StageFault}
use Rattle.cloud_points.specs.declared.work.Work.{Ghosts}
use Rattle.cloud_points.specs.Bodies.{bodies, numbers}
use Rattle.network_theory.specs.Net as net
use Rattle.network_theory.specs.Forest.{children, IsForest}
use Rattle.network_theory.specs.History.{points_in_step}
use Rattle.network_theory.specs.Opening.{IsSpent, IsOpening}
use Rattle.network_core.specs.declared.node.Node.{Node}
use Rattle.network_core.specs.declared.net.Net.{Net}
use Rattle.network_core.specs.Wires.{queue_at}
use Rattle.network_core.specs.Shown.{shown, choice}
use Rattle.network_core.specs.Calm.{Obeys}
use Rattle.network_core.specs.Holding.{HoldsMore}

-- its nodes, the numbers of the children of each, and the room of each queue
abbrev pub nodes_of : {W : Type 0} → Net W → List (Node W)
nodes_of n = n.nodes.items

abbrev pub ins_of : {W : Type 0} → Net W → List (List ℕ)
ins_of n = n.ins

abbrev pub capacity_of : {W : Type 0} → Net W → ℕ
capacity_of n = n.capacity

-- the last node's number
abbrev pub root_of : {W : Type 0} → Net W → ℕ
root_of n = length n.nodes.items - 1

-- a node, where there is one
abbrev pub shown_or : {W S : Type 0} (g : Ghosts W S) → net.Node S Point StageFault → List ℕ → Option (Node W) → net.Node S Point StageFault
shown_or g beyond ins None = beyond
shown_or g beyond ins (Some n) = shown g ins n

-- nodes, the numbers of their children and the queues above them; what stands beyond the nodes is of no matter
abbrev pub net_with : {W S : Type 0} (g : Ghosts W S) → net.Node S Point StageFault → List (Node W) → List (List ℕ) → List (Buffer code.Item) → net.Net S Point StageFault
net_with g beyond nodes ins queues = record {
  node = λ k. shown_or g beyond (children ins k) (slice_get nodes k);
  edge = λ k. bodies (queue_at queues k).items;
  numbers = λ k. numbers (queue_at queues k).items;
}

abbrev pub net_of : {W S : Type 0} (g : Ghosts W S) → net.Node S Point StageFault → Net W → net.Net S Point StageFault
net_of g beyond n = net_with g beyond n.nodes.items n.ins n.edges.items

-- a net at its start, with room on its queues
pub record IsNewNet {W S : Type 0} (g : Ghosts W S) (n : Net W) : Type 0 where
  pub forest : IsForest n.ins (root_of n)
  pub room : 0 < n.capacity
  pub opening : (beyond : net.Node S Point StageFault) → IsSpent beyond → IsOpening (net_of g beyond n) (root_of n)

-- the event of a turn of node i, by the net before and after
abbrev pub choice_of : {W S : Type 0} (g : Ghosts W S) → Option (Node W) → Option (Node W) → net.Choice S Point StageFault
choice_of g None new = net.Quiet
choice_of g (Some old) None = net.Quiet
choice_of g (Some old) (Some new) = choice g old new

abbrev pub choice_at : {W S : Type 0} (g : Ghosts W S) → Net W → Net W → ℕ → net.Choice S Point StageFault
choice_at g old new i = choice_of g (slice_get old.nodes.items i) (slice_get new.nodes.items i)

-- what a turn of node i keeps
pub record ObeysAt {W S : Type 0} (g : Ghosts W S) (old new : Net W) (i : ℕ) : Type 0 where
  pub here : (n m : Node W) → slice_get old.nodes.items i ≡ Some n → slice_get new.nodes.items i ≡ Some m → Obeys g n m
  pub others : (k : ℕ) → k ≢ i → slice_get new.nodes.items k ≡ slice_get old.nodes.items k
  -- the work holds besides what the turn took
  pub holds : (beyond : net.Node S Point StageFault) (n m : Node W) → slice_get old.nodes.items i ≡ Some n → slice_get new.nodes.items i ≡ Some m
      → HoldsMore g n m (points_in_step (net_of g beyond old) (root_of old) (capacity_of old) i (choice_at g old new i) i)

-- what no turn changes
pub record SameShape {W : Type 0} (old new : Net W) : Type 0 where
  pub ins : new.ins ≡ old.ins
  pub capacity : new.capacity ≡ old.capacity
  pub count : length new.nodes.items ≡ length old.nodes.items
