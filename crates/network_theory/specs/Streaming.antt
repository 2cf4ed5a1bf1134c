-- Nodes that stream flows over a tree.
use Rattle.std.specs.Prelude.{◌≡◌, ℕ, ◌≤◌, true, false, List, length, map, cond, Option, Some, None}
use Rattle.cloud_points.specs.Flows.{Flow, points, join_all}
use Rattle.cloud_points.specs.Marks.{flow_marks}
use Rattle.cloud_points.specs.Queue.{up_to_limit}
use Rattle.network_theory.specs.Machine.{Machine, made_of, fault_on, state_after}
use Rattle.network_theory.specs.Net.{Node, Net, rest}
use Rattle.network_theory.specs.History.{mark_points, brings}

-- the flows of these nodes, one after the other
abbrev pub input_of : {P : Type 0} → (ℕ → Flow P) → List ℕ → Flow P
input_of value ins = join_all (map value ins)

-- each leaf tells the flow of its number, and each other node's work makes it of the flows of the node's children
pub record IsStreaming {S P F : Type 0} (net : Net S P F) (root : ℕ) (value : ℕ → Flow P) : Type 0 where
  pub leaf : (k : ℕ) → k ≤ root → (net.node k).leaf ≡ true → (net.node k).told ≡ flow_marks (value k)
  pub inner : (k : ℕ) → k ≤ root → (net.node k).leaf ≡ false → made_of (net.node k).work (net.node k).machine.state (input_of value (net.node k).ins) ≡ flow_marks (value k)

-- the fault that a node at its start will have, where it takes this flow
abbrev pub fault_over : {S P F : Type 0} → Node S P F → Flow P → Option F
fault_over n flow = cond n.leaf n.told_fault (fault_on n.work n.machine.state flow)

-- the last state of a node's work, which isn't asked of a leaf
abbrev pub state_in : {S F : Type 0} → Option (Machine S F) → Option S
state_in None = None
state_in (Some c) = Some c.state

abbrev pub state_over : {S P F : Type 0} → Node S P F → Flow P → Option S
state_over n flow = cond n.leaf None (Some (state_after n.work n.machine.state flow))

-- node k takes the flows of its children, gives on its own, and ends with the fault and the state that these leave
pub record StreamsAt {S P F : Type 0} (net : Net S P F) (value : ℕ → Flow P) (k : ℕ) : Type 0 where
  pub takes : mark_points (brings net k) ≡ points (input_of value (net.node k).ins)
  pub views : (rest net k).views ≡ up_to_limit (length (value k).views)
  pub points : (rest net k).points ≡ up_to_limit (length (points (value k)))
  pub fault : (rest net k).fault ≡ fault_over (net.node k) (input_of value (net.node k).ins)
  pub state : state_in (rest net k).machine ≡ state_over (net.node k) (input_of value (net.node k).ins)
