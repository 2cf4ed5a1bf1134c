-- What one node took and gave between two of its states.
use Rattle.std.specs.Prelude.{◌≡◌, ℕ, ◌+◌, ◌-◌, List, [], ◌++◌, cond, ◌==◌}
use Rattle.std.proofs.Common.{zero, suc}
use Rattle.cloud_points.specs.Marks.{Mark, Item, all_marks, to_end}
use Rattle.network_theory.specs.Net.{Node, remains, last_of}

-- the flows of so many inputs from this one on, each up to its end
abbrev pub from_input : {P : Type 0} → (ℕ → List (Mark P)) → ℕ → ℕ → List (Mark P)
from_input f at zero = []
from_input f at (suc left) = to_end (f at) ++ from_input f (at + 1) left

abbrev pub rest_of : {S P F : Type 0} → Node S P F → (ℕ → List (Mark P)) → List (Mark P)
rest_of n f = from_input f n.machine.ended (n.machine.inputs - n.machine.ended)

abbrev pub joined : {P : Type 0} → (ℕ → List (Mark P)) → (ℕ → List (Mark P)) → ℕ → List (Mark P)
joined a r k = a k ++ r k

-- for all further flows the old node still gives what was given and what the new node still gives
pub record Carried {S P F : Type 0} (old new : Node S P F) (a : ℕ → List (Mark P)) (b : List (Mark P)) : Type 0 where
  pub flow : (r : ℕ → List (Mark P)) → remains old (rest_of old (joined a r)) ≡ b ++ remains new (rest_of new r)
  pub last : (r : ℕ → List (Mark P)) → last_of old (rest_of old (joined a r)) ≡ last_of new (rest_of new r)

-- the items that were taken from one input
abbrev pub only_input : {P : Type 0} → ℕ → List (Item P) → ℕ → List (Mark P)
only_input e a k = cond (k == e) (all_marks a) []
