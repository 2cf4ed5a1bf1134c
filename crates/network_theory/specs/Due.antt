-- What a whole net owes.
use Rattle.std.specs.Prelude.{◌≡◌, ℕ, ◌+◌, ◌*◌, ◌≤◌, List, length}
use Rattle.std.proofs.Common.{zero, suc}
use Rattle.network_theory.specs.Net.{Net, owes}
use Rattle.network_theory.specs.Shape.{Each}

abbrev pub total : (ℕ → ℕ) → ℕ → ℕ
total f zero = 0
total f (suc n) = total f n + f n

-- how far each node is below the root
pub record IsBelow (ins : ℕ → List ℕ) (root : ℕ) (below : ℕ → ℕ) : Type 0 where
  pub top : below root ≡ 0
  pub child : (k : ℕ) → k ≤ root → Each (λ j. below j ≡ below k + 1) (ins k)

abbrev pub node_owes : {S P F : Type 0} → Net S P F → (ℕ → ℕ) → ℕ → ℕ
node_owes net below k = owes (below k) (net.node k)

abbrev pub edge_owes : {S P F : Type 0} → Net S P F → (ℕ → ℕ) → ℕ → ℕ
edge_owes net below k = 2 * below k * length (net.edge k)

abbrev pub due : {S P F : Type 0} → Net S P F → (ℕ → ℕ) → ℕ → ℕ
due net below count = total (node_owes net below) count + total (edge_owes net below) count
