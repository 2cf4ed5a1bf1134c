-- The first of two faults, and the fault that an error tells.
use Rattle.std.specs.Prelude.{◌≡◌, Option, Some, None, ⊤}
use Rattle.stage_names.specs.declared.faults.PipeFault.{PipeFault}
use Rattle.stage_names.specs.declared.faults.PipeErr.{PipeErr}
use Rattle.stage_names.specs.declared.faults.PipeErr.TheVariants.{Fault, Memory}

-- the first of these, or else the second
abbrev pub or_else : Option PipeFault → Option PipeFault → Option PipeFault
or_else (Some f) o = Some f
or_else None o = o

-- the fault that an error tells; want of memory tells none
abbrev pub IsFaultOf : Option PipeFault → PipeErr → Type 0
IsFaultOf f (Fault g) = f ≡ Some g
IsFaultOf f Memory = ⊤
