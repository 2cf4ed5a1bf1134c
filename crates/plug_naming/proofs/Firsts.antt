-- The fault of a stage is the first one where no earlier stage has one.
use Rattle.std.proofs.Common.{◌≡◌, ◌<◌, ℕ, List, length, None}
use Rattle.answer_model.proofs.Least.{least-at}
use Rattle.answer_model.specs.Naming.{first_naming_fault, naming_fault}
use Rattle.plug_naming.specs.First.{IsFirstFault}
use Rattle.plug_stages.specs.Handed.{Handed}
use Rattle.stage_names.specs.Faults.{IsFaultOf}
use Rattle.stage_names.specs.declared.faults.PipeErr.{PipeErr}
use Rattle.stage_names.specs.declared.faults.PipeErr.TheVariants.{Fault, Memory}
use Rattle.stage_options.specs.declared.stage.StageSpec.{StageSpec}

pub first-fault : (handed : Handed) (stages : List StageSpec) (i : ℕ) (error : PipeErr) → i < length stages → ((j : ℕ) → j < i → naming_fault handed stages j ≡ None)
    → IsFaultOf (naming_fault handed stages i) error → IsFirstFault (first_naming_fault handed stages) error
first-fault handed stages i (Fault f) inside earlier is = (i, least-at (naming_fault handed stages) (length stages) i f inside is earlier)
first-fault handed stages i Memory inside earlier is = tt
