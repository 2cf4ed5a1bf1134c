-- One node between two of its states.
use Rattle.std.specs.Prelude.{◌≡◌, ℕ, true, false, ◌||◌, List, [], ◌++◌, None}
use Rattle.cloud_points.specs.Marks.{Mark}
use Rattle.network_theory.specs.Net.{Node, holds_end}
use Rattle.network_theory.specs.Carried.{Carried, rest_of, joined}

-- once its end is made nothing else is to come
pub record IsClosing {S P F : Type 0} (n : Node S P F) : Type 0 where
  pub hand : holds_end n.hand ≡ true → n.ending ≡ false
  pub done : n.done ≡ true → n.ending ≡ false
  pub leaf : n.leaf ≡ true → n.ending ≡ false
  pub told : n.leaf ≡ true → n.done || holds_end n.hand ≡ true → (n.told ≡ []) × (n.told_fault ≡ None)

-- what no turn changes, and what the node read of its inputs, whatever events came
pub record Between {S P F : Type 0} (old new : Node S P F) (a : ℕ → List (Mark P)) : Type 0 where
  pub work : new.work ≡ old.work
  pub leaf : new.leaf ≡ old.leaf
  pub inputs : new.machine.inputs ≡ old.machine.inputs
  pub took : List (Mark P)
  pub reads : (r : ℕ → List (Mark P)) → rest_of old (joined a r) ≡ took ++ rest_of new r

-- what holds besides where none came
pub record QuietBetween {S P F : Type 0} (old new : Node S P F) (a : ℕ → List (Mark P)) (b : List (Mark P)) : Type 0 where
  pub carried : Carried old new a b
  pub closing : IsClosing old → IsClosing new
