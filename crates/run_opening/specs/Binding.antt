-- Why a stage isn't bound.
use Rattle.std.specs.Prelude.{◌≡◌, ⊤, Option, Some}
use Rattle.stage_names.specs.declared.faults.PipeFault.{PipeFault}
use Rattle.run_report.specs.declared.refusal.Refusal.{Refusal}
use Rattle.run_report.specs.declared.refusal.Refusal.TheVariants.{Memory, Pipeline}

-- memory was wanting, or this is the fault of its options
abbrev pub IsUnboundAt : Option PipeFault → Refusal → Type 0
IsUnboundAt found Memory = ⊤
IsUnboundAt found (Pipeline f) = found ≡ Some f
IsUnboundAt found refusal = ⊥
