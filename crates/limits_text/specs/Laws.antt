-- laws of texts
use Rattle.std.specs.Prelude.{◌≡◌, ◌↔◌, ℕ, List, Option, Some, None}
use Rattle.limits_text.specs.declared.control.Control.{Control}
use Rattle.limits_text.specs.Fronts.{IsFault}

-- what is computed of a text is what its pieces stand for
abbrev pub IsReadAs : {V : Type 0} → (List ℕ → V → Type 0) → (List ℕ → Option V) → Type 0
IsReadAs {V} shows says = (text : List ℕ) (v : V) → (says text ≡ Some v) ↔ shows text v

abbrev pub HasOneFault : Control → Type 0
HasOneFault start = (text : List ℕ) (a b : ℕ) → IsFault start text a → IsFault start text b → a ≡ b

-- where a text has a fault it says nothing
abbrev pub SaysNothing : {V : Type 0} → Control → (List ℕ → Option V) → Type 0
SaysNothing start says = (text : List ℕ) (at : ℕ) → IsFault start text at → says text ≡ None

-- where a text says nothing it has a fault
abbrev pub IsSaidOrFaulty : {V : Type 0} → Control → List ℕ → Option V → Type 0
IsSaidOrFaulty start text (Some v) = Unit {0}
IsSaidOrFaulty start text None = (at : ℕ) × IsFault start text at
