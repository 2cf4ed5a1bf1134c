-- The device that is named where a pipeline's file is run.
use Rattle.std.proofs.Common.{◌≡◌, ℕ, List, Option, Result, Ok, Err, IfErr, ap, subst, sym, ◌∙◌}
use Rattle.file_devices.specs.Named.{Names}
use Rattle.plug_stages.specs.Handed.{Handed}
use Rattle.answer_model.specs.Runs.{file_at}
use Rattle.answer_model.specs.Steps.{and_then}
use Rattle.run_outcome.specs.Least.{IsNamedBy}
use Rattle.run_report.specs.declared.refusal.Fault.TheVariants as fault
use Rattle.run_report.specs.declared.refusal.Place.TheVariants as at
use Rattle.run_report.specs.declared.refusal.Refusal.{Refusal}
use Rattle.run_report.specs.declared.refusal.Refusal.TheVariants as of
use Rattle.stage_options.specs.declared.stage.StageSpec.{StageSpec}
use Rattle.lasline_top.specs.Answer.{named, runnable_in, runnable_of, stages_in}
use Rattle.lasline_top.specs.Cause.{IsOfPlan, IsOfText}
use Rattle.lasline_top.specs.Ends.{WasUnmade}
use Rattle.lasline_top.specs.Least.{GaveOne, IsPlanNamed, IsTextNamed}

-- a text that isn't run names no device
pub text-named : (handed : Handed) (text : List ℕ) (before after : Option (List ℕ)) (r : Refusal) → IsOfText r → IsTextNamed handed text before after r
text-named handed text before after (of.Pipeline f) why = λ stages is. tt
text-named handed text before after of.Memory why = λ stages is. tt
text-named handed text before after (of.Data i f) why = absurd why
text-named handed text before after (of.Device p o) why = absurd why
text-named handed text before after (of.Usage k) why = absurd why

-- its stages were run
pub stages-named : {X : Type 0} (handed : Handed) (text : List ℕ) (stages : List StageSpec) (before after : Option (List ℕ)) (result : Result X Refusal) → runnable_in handed text ≡ Ok stages
    → IfErr result (IsNamedBy stages before after) → IfErr result (IsTextNamed handed text before after)
stages-named handed text stages before after (Ok x) is why = tt
stages-named handed text stages before after (Err r) is why = λ others also. (
    let both : Ok stages ≡ Ok others = sym is ∙ also in
    let same : stages ≡ others = cc in
    subst (λ ss. IsNamedBy ss before after r) same why)

-- it is the plan, before which a file was given back
pub plan-named : (plan : Result (List StageSpec) Refusal) (handed : Handed) (text : List ℕ) (before mid after : Option (List ℕ)) (r : Refusal) → plan ≡ runnable_in handed text → GaveOne before mid → IsTextNamed handed text mid after r
    → IsPlanNamed plan before after r
plan-named plan handed text before mid after (of.Device (at.Stage i) o) same gave why = λ stages is. (mid, gave, why stages (sym same ∙ is))
plan-named plan handed text before mid after (of.Device at.PipelineFile o) same gave why = tt
plan-named plan handed text before mid after (of.Device at.Generated o) same gave why = tt
plan-named plan handed text before mid after (of.Device at.Out o) same gave why = tt
plan-named plan handed text before mid after (of.Data i (fault.Header f)) same gave why = tt
plan-named plan handed text before mid after (of.Data i (fault.Vlr f)) same gave why = tt
plan-named plan handed text before mid after (of.Data i (fault.Point f)) same gave why = λ stages is. (mid, gave, why stages (sym same ∙ is))
plan-named plan handed text before mid after (of.Pipeline f) same gave why = tt
plan-named plan handed text before mid after (of.Usage k) same gave why = tt
plan-named plan handed text before mid after of.Memory same gave why = tt

-- the plan that was read from a file
pub plan-read : (handed : Handed) (m : Names) (file text : List ℕ) → file_at (m file) at.PipelineFile ≡ Ok text → runnable_of handed m file ≡ runnable_in handed text
plan-read handed m file text read = ap (λ x. and_then (and_then x stages_in) (named handed)) read

-- it couldn't be read
pub unplanned : (plan : Result (List StageSpec) Refusal) (before after : Option (List ℕ)) (r : Refusal) → IsOfPlan r → IsPlanNamed plan before after r
unplanned plan before after (of.Device at.PipelineFile o) why = tt
unplanned plan before after (of.Device (at.Stage i) o) why = absurd why
unplanned plan before after (of.Device at.Generated o) why = absurd why
unplanned plan before after (of.Device at.Out o) why = absurd why
unplanned plan before after (of.Data i f) why = absurd why
unplanned plan before after (of.Pipeline f) why = tt
unplanned plan before after (of.Usage k) why = absurd why
unplanned plan before after of.Memory why = tt

-- the trial's file couldn't be made
pub unmade-named : (rose : Type 0) (old new : Option Names) (name bytes : List ℕ) (plan : Result (List StageSpec) Refusal) (before after : Option (List ℕ)) (r : Refusal) → WasUnmade rose old name bytes new r → IsPlanNamed plan before after r
unmade-named rose old new name bytes plan before after (of.Device at.PipelineFile o) why = tt
unmade-named rose old new name bytes plan before after (of.Device (at.Stage i) o) why = absurd why
unmade-named rose old new name bytes plan before after (of.Device at.Generated o) why = tt
unmade-named rose old new name bytes plan before after (of.Device at.Out o) why = tt
unmade-named rose old new name bytes plan before after (of.Data i f) why = absurd why
unmade-named rose old new name bytes plan before after (of.Pipeline f) why = tt
unmade-named rose old new name bytes plan before after (of.Usage k) why = tt
unmade-named rose old new name bytes plan before after of.Memory why = tt
