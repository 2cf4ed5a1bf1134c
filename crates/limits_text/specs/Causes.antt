-- why a text isn't read, where what it says takes memory
use Rattle.std.specs.Prelude.{ℕ, ◌≡◌, List, Option, None}
use Rattle.limits_text.specs.declared.control.Control.{Control}
use Rattle.limits_text.specs.declared.faults.TextErr.{TextErr}
use Rattle.limits_text.specs.declared.faults.TextErr.TheVariants.{Fault, Memory}
use Rattle.limits_text.specs.Fronts.{IsFault}

-- of a fault its place
abbrev pub IsCause : Control → List ℕ → TextErr → Type 0
IsCause start text (Fault f) = IsFault start text f.at
IsCause start text Memory = Unit {0}

-- where there is a fault, the text says nothing
abbrev pub IsRefused : {V : Type 0} → TextErr → Option V → Type 0
IsRefused (Fault f) said = said ≡ None
IsRefused Memory said = Unit {0}
