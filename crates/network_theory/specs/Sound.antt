-- What holds of a net at any time, with or without events.
use Rattle.std.specs.Prelude.{◌≡◌, ℕ, ◌<◌, ◌≤◌, Bool, true, false, List, [], ◌∷◌, length, take, None}
use Rattle.cloud_points.specs.Marks.{Item, is_end}
use Rattle.network_theory.specs.Net.{Net, Node, open_ins, holds_end}
use Rattle.network_theory.specs.Shape.{Each}

-- the last item is the end of all
abbrev pub EndsInEnd : {P : Type 0} → List (Item P) → Type 0
EndsInEnd [] = ⊥
EndsInEnd (i ∷ []) = is_end i ≡ true
EndsInEnd (i ∷ j ∷ js) = EndsInEnd (j ∷ js)

abbrev pub HasNoEnd : {P : Type 0} → List (Item P) → Type 0
HasNoEnd items = Each (λ i. is_end i ≡ false) items

-- what lies on the edge above a child whose end was not taken yet
pub record IsEdge {P : Type 0} (done : Bool) (items : List (Item P)) : Type 0 where
  pub ends : done ≡ true → EndsInEnd items
  pub goes_on : done ≡ false → HasNoEnd items

pub record IsNode {S P F : Type 0} (n : Node S P F) : Type 0 where
  pub inputs : n.machine.inputs ≡ length n.ins
  pub within : n.machine.ended ≤ n.machine.inputs
  pub leaf : n.leaf ≡ true → n.ins ≡ []
  -- an inner node that has no end to give has an input to read
  pub reads : n.leaf ≡ false → n.done ≡ false → n.ending ≡ false → holds_end n.hand ≡ false → n.machine.ended < n.machine.inputs
  pub read_hand : holds_end n.hand ≡ true → n.machine.ended ≡ n.machine.inputs
  pub read_ending : n.ending ≡ true → n.machine.ended ≡ n.machine.inputs
  pub read_done : n.done ≡ true → n.machine.ended ≡ n.machine.inputs
  pub rests : n.done ≡ true → n.hand ≡ None

pub record IsSound {S P F : Type 0} (net : Net S P F) : Type 0 where
  pub nodes : (k : ℕ) → IsNode (net.node k)
  pub edges : (k : ℕ) → Each (λ j. IsEdge ((net.node j).done) (net.edge j)) (open_ins (net.node k))
  pub closed : (k : ℕ) → Each (λ j. (net.node j).done ≡ true) (take (net.node k).machine.ended (net.node k).ins)
