-- A net at its start.
use Rattle.std.specs.Prelude.{◌≡◌, ℕ, ◌<◌, ◌≤◌, true, false, [], length, None}
use Rattle.network_theory.specs.Net.{Net, Node}
use Rattle.network_theory.specs.Shape.{IsTree, ins_of}
use Rattle.network_theory.specs.Sound.{IsNode}

-- a new node, which has inputs exactly where it is no leaf
pub record IsFresh {S P F : Type 0} (n : Node S P F) : Type 0 where
  pub inputs : n.machine.inputs ≡ length n.ins
  pub leaf : n.leaf ≡ true → n.ins ≡ []
  pub inner : n.leaf ≡ false → 0 < n.machine.inputs
  pub ended : n.machine.ended ≡ 0
  pub cut : n.machine.cut ≡ false
  pub fault : n.machine.fault ≡ None
  pub hand : n.hand ≡ None
  pub ending : n.ending ≡ false
  pub done : n.done ≡ false
  pub sent : n.sent ≡ 0
  pub views : n.views ≡ 0
  pub points : n.points ≡ 0

-- what stands at the numbers beyond the net's nodes
pub record IsSpent {S P F : Type 0} (n : Node S P F) : Type 0 where
  pub sound : IsNode n
  pub ins : n.ins ≡ []
  pub done : n.done ≡ true

-- the nodes up to the root are new, and nothing is on an edge
pub record IsOpening {S P F : Type 0} (net : Net S P F) (root : ℕ) : Type 0 where
  pub tree : IsTree (ins_of net) root
  pub fresh : (k : ℕ) → k ≤ root → IsFresh (net.node k)
  pub beyond : (k : ℕ) → root < k → IsSpent (net.node k)
  pub edges : (k : ℕ) → net.edge k ≡ []
  pub numbers : (k : ℕ) → net.numbers k ≡ []
