-- How the nodes of a net are joined.
use Rattle.std.specs.Prelude.{◌≡◌, ℕ, ◌+◌, ◌<◌, ◌≤◌, ◌^◌, List, [], Option, Some, None, length, slice_get, slice_index_or}
use Rattle.circular_buffer.specs.Buffer.{Buffer, buffer}
use Rattle.cloud_points.specs.declared.item.Item.{Item}
use Rattle.network_theory.specs.Forest.{children}
use Rattle.network_core.specs.declared.node.Node.{Node}

-- the queue above a node; none is above the root
abbrev pub queue_at : List (Buffer Item) → ℕ → Buffer Item
queue_at queues k = slice_index_or queues k (buffer [] 0)

-- the queue of the current input, where there is one
abbrev pub queue_of : List (Buffer Item) → Option ℕ → Buffer Item
queue_of queues None = buffer [] 0
queue_of queues (Some c) = queue_at queues c

-- each node but the root has a queue above it and as many children as inputs, whose numbers are smaller
pub record IsWired {W : Type 0} (nodes : List (Node W)) (ins : List (List ℕ)) (queues : List (Buffer Item)) (capacity : ℕ) : Type 0 where
  pub lists : length ins ≡ length nodes
  pub edges : length queues + 1 ≡ length nodes
  pub most : length nodes < 2 ^ 32
  pub inputs : (k : ℕ) (n : Node W) → slice_get nodes k ≡ Some n → n.inputs ≡ length (children ins k)
  pub below : (k j : ℕ) → j < length (children ins k) → slice_index_or (children ins k) j 0 < k
  pub rooms : (k : ℕ) → k < length queues → (queue_at queues k).capacity ≡ capacity

-- the current child of node i
abbrev pub IsChild : {W : Type 0} → List (Node W) → List (List ℕ) → ℕ → Option ℕ → Type 0
IsChild {W} nodes ins i None = (n : Node W) → slice_get nodes i ≡ Some n → n.inputs ≤ n.ended
IsChild {W} nodes ins i (Some c) = (c < i) × ((n : Node W) → slice_get nodes i ≡ Some n → (n.ended < n.inputs) × (c ≡ slice_index_or (children ins i) n.ended 0))
