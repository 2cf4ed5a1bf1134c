-- The shape of a net, which no turn changes.
use Rattle.std.specs.Prelude.{◌≡◌, ◌≢◌, ℕ, ◌<◌, ◌≤◌, ◌⊎◌, List, [], ◌∷◌}
use Rattle.network_theory.specs.Net.{Net}

abbrev pub Each : {A : Type 0} → (A → Type 0) → List A → Type 0
Each P [] = Unit {0}
Each P (x ∷ xs) = P x × Each P xs

abbrev pub Apart : List ℕ → Type 0
Apart [] = Unit {0}
Apart (x ∷ xs) = Each (λ y. y ≢ x) xs × Apart xs

abbrev pub In : ℕ → List ℕ → Type 0
In j [] = ⊥
In j (x ∷ xs) = (j ≡ x) ⊎ In j xs

-- a tree: children have smaller numbers, and each node is a child of its parent alone, once
pub record IsTree (ins : ℕ → List ℕ) (root : ℕ) : Type 0 where
  pub below : (k : ℕ) → Each (λ j. j < k) (ins k)
  pub apart : (k : ℕ) → Apart (ins k)
  pub parent : ℕ → ℕ
  pub owned : (k : ℕ) → Each (λ j. parent j ≡ k) (ins k)
  -- each node but the root is a child
  pub child : (k : ℕ) → k < root → (k < parent k) × (parent k ≤ root) × In k (ins (parent k))
  pub no_root : (k : ℕ) → Each (λ j. j ≢ root) (ins k)

abbrev pub ins_of : {S P F : Type 0} → Net S P F → ℕ → List ℕ
ins_of net k = (net.node k).ins
