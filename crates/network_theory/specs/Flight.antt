-- The points in flight.
use Rattle.std.specs.Prelude.{ℕ, ◌+◌, List, [], ◌∷◌, Option, Some, None}
use Rattle.cloud_points.specs.Marks.{Item, points_in}
use Rattle.network_theory.specs.Net.{Net}
use Rattle.network_theory.specs.Due.{total}

abbrev pub hand_points : {P : Type 0} → Option (Item P) → ℕ
hand_points None = 0
hand_points (Some i) = points_in i

abbrev pub points_on : {P : Type 0} → List (Item P) → ℕ
points_on [] = 0
points_on (i ∷ is) = points_in i + points_on is

-- the points in all hands and on all edges; no edge is above the root
abbrev pub in_flight : {S P F : Type 0} → Net S P F → ℕ → ℕ
in_flight net root = total (λ k. hand_points (net.node k).hand) (root + 1) + total (λ k. points_on (net.edge k)) root
