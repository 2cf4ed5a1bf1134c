-- How far a node is below the root.
use Rattle.std.specs.Prelude.{ℕ, ◌+◌, ◌==◌, cond}
use Rattle.std.proofs.Common.{zero, suc}

-- the steps from a node to the root, of which there are at most so many
abbrev pub depth : (ℕ → ℕ) → ℕ → ℕ → ℕ → ℕ
depth parent root zero k = 0
depth parent root (suc steps) k = cond (k == root) 0 (depth parent root steps (parent k) + 1)
