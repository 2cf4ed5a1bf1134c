-- The first fault of the names of stages, as an error tells it.
use Rattle.std.specs.Prelude.{◌≡◌, ℕ, Option, Some, ⊤}
use Rattle.stage_names.specs.declared.faults.PipeErr.{PipeErr}
use Rattle.stage_names.specs.declared.faults.PipeErr.TheVariants.{Fault, Memory}
use Rattle.stage_names.specs.declared.faults.PipeFault.{PipeFault}

-- it is the fault that is found, or want of memory
abbrev pub IsFirstFault : Option (ℕ × PipeFault) → PipeErr → Type 0
IsFirstFault found (Fault f) = (i : ℕ) × (found ≡ Some (i, f))
IsFirstFault found Memory = ⊤
