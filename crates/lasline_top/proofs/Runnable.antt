-- The pipeline of a text, as far as it can be run.
use Rattle.std.proofs.Common.{◌≡◌, ℕ, List, length, Ok, ap, ◌∙◌}
use Rattle.answer_model.proofs.Least.{least-nowhere}
use Rattle.answer_model.specs.Naming.{AreNamed, first_naming_fault, naming_fault}
use Rattle.answer_model.specs.Steps.{and_then}
use Rattle.plug_naming.specs.First.{IsFirstFault}
use Rattle.plug_stages.specs.Handed.{Handed}
use Rattle.run_outcome.specs.Cause.{Because}
use Rattle.stage_names.specs.declared.faults.PipeErr.{PipeErr}
use Rattle.stage_names.specs.declared.faults.PipeErr.TheVariants as pipe
use Rattle.stage_options.specs.declared.stage.StageSpec.{StageSpec}
use Rattle.lasline_top.specs.Answer.{named, runnable_in, stages_in, unless_misnamed}
use Rattle.lasline_top.specs.Cause.{IsOfText, Never}
use Rattle.lasline_top.specs.Refusals.{refusal_of}

module _ (handed : Handed) (text : List ℕ) (stages : List StageSpec) (read : stages_in text ≡ Ok stages) where
  runnable-is : runnable_in handed text ≡ named handed stages
  runnable-is = ap (λ p. and_then p (named handed)) read

  -- each name is there, once
  pub is-runnable : AreNamed handed stages → runnable_in handed text ≡ Ok stages
  is-runnable are = runnable-is ∙ ap (λ found. unless_misnamed found stages) (least-nowhere (naming_fault handed stages) (length stages) are)

  -- one isn't
  pub misnamed : (e : PipeErr) → IsFirstFault (first_naming_fault handed stages) e → Because (runnable_in handed text) Never (refusal_of e)
  misnamed (pipe.Fault f) found = runnable-is ∙ ap (λ found. unless_misnamed found stages) found.1
  misnamed pipe.Memory found = tt

pub of-names : (e : PipeErr) → IsOfText (refusal_of e)
of-names (pipe.Fault f) = tt
of-names pipe.Memory = tt
