-- The typed stages of a tree, or their first fault.
use Rattle.std.specs.Prelude.{ℕ, ◌+◌, List, [], ◌∷◌, map, Option, Some, None, option_map, Result, Ok, Err, ◌≡◌, ⊤}
use Rattle.stage_names.specs.declared.faults.PipeFault.{PipeFault}
use Rattle.stage_names.specs.declared.faults.PipeFault.TheVariants.{SameOutput}
use Rattle.stage_names.specs.declared.faults.PipeErr.{PipeErr}
use Rattle.stage_names.specs.declared.faults.PipeErr.TheVariants.{Fault, Memory}
use Rattle.pipeline_json.specs.Stages.{Stage}
use Rattle.stage_options.specs.declared.options.Options.{Options}
use Rattle.stage_options.specs.declared.stage.StageSpec.{StageSpec}
use Rattle.stage_typing.specs.OptionFaults.{first_fault}
use Rattle.stage_names.specs.Faults.{or_else}
use Rattle.stage_typing.specs.Outputs.{same_output}
use Rattle.stage_typing.specs.Typed.{typed_of}

-- the first fault of stage i's options
abbrev pub stage_fault : ℕ → Stage → Option PipeFault
stage_fault i s = first_fault i s.kind s.filename s.members

-- the options of a stage
abbrev pub options_of : Stage → Options
options_of s = typed_of s.kind s.filename s.members

-- the stage with its options
abbrev pub spec_of : Stage → StageSpec
spec_of s = record { ins = s.ins; options = options_of s }

abbrev pub specs_of : List Stage → List StageSpec
specs_of stages = map spec_of stages

-- the first fault of the options, of the first stage that has one; the first of these stages is stage i
abbrev pub options_fault : ℕ → List Stage → Option PipeFault
options_fault i [] = None
options_fault i (s ∷ later) = or_else (stage_fault i s) (options_fault (i + 1) later)

-- all options come before the outputs
abbrev pub tree_fault : List Stage → Option PipeFault
tree_fault stages = or_else (options_fault 0 stages) (option_map SameOutput (same_output (specs_of stages)))

abbrev pub unless : Option PipeFault → List StageSpec → Result (List StageSpec) PipeFault
unless None specs = Ok specs
unless (Some f) specs = Err f

abbrev pub typed_tree : List Stage → Result (List StageSpec) PipeFault
typed_tree stages = unless (tree_fault stages) (specs_of stages)

-- the fault that an error tells is the outcome's; want of memory tells none
abbrev pub IsToldFault : Result (List StageSpec) PipeFault → PipeErr → Type 0
IsToldFault o (Fault f) = o ≡ Err f
IsToldFault o Memory = ⊤
