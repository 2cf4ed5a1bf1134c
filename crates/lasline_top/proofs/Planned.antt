-- What refuses a pipeline refuses the command that names it.
use Rattle.std.proofs.Common.{◌≡◌, ℕ, List, [], Option, Some, Result, Ok, IsOk, IsOkAnd, refl, ap, subst, sym, ◌∙◌, inl, inr}
use Rattle.file_devices.specs.declared.devices.Op.{Op}
use Rattle.file_devices.specs.declared.devices.Op.TheVariants as op
use Rattle.file_devices.specs.Content.{AppendsPart}
use Rattle.file_devices.specs.Named.{Names}
use Rattle.stage_options.specs.declared.stage.StageSpec.{StageSpec}
use Rattle.run_report.specs.declared.refusal.Place.{Place}
use Rattle.run_report.specs.declared.refusal.Place.TheVariants as at
use Rattle.run_report.specs.declared.refusal.Refusal.{Refusal}
use Rattle.run_report.specs.declared.refusal.Refusal.TheVariants as of
use Rattle.answer_model.specs.Steps.{and_then}
use Rattle.run_outcome.specs.Cause.{Because, IsPartDone, WerePut}
use Rattle.stage_planner.specs.Plans.{plan_of}
use Rattle.lasline_top.specs.Texts.{plan_text}
use Rattle.lasline_top.specs.Words.{Plan_file}
use Rattle.lasline_top.specs.Answer.{plan_in, planned, printed}
use Rattle.lasline_top.specs.Ends.{WasRefused}
use Rattle.lasline_top.proofs.Printed.{part_put, unprinted}
use Rattle.plug_stages.specs.Handed.{Handed}

-- what refuses the first of two steps refuses both
pub because-then : {A B : Type 0} (r : Refusal) (first : Result A Refusal) (f : A → Result B Refusal) (failed later : Place → Op → Type 0) → ((p : Place) (o : Op) → failed p o → later p o)
    → Because first failed r → Because (and_then first f) later r
because-then of.Memory first f failed later more h = tt
because-then (of.Device p o) first f failed later more (inl e) = inl (ap (λ x. and_then x f) e)
because-then (of.Device p o) first f failed later more (inr h) = inr (more p o h)
because-then (of.Data i g) first f failed later more h = ap (λ x. and_then x f) h
because-then (of.Pipeline g) first f failed later more h = ap (λ x. and_then x f) h
because-then (of.Usage k) first f failed later more h = ap (λ x. and_then x f) h

-- ---- plans that were made

-- what the plan of a file comes to
plan-is : (file : List ℕ) (stages : List StageSpec) (old new : Option Names) (m : Names) → ((n : Names) → old ≡ Some n → plan_in n file ≡ Ok stages) → old ≡ Some m
    → planned m file ≡ Ok (printed (plan_text (plan_of stages)))
plan-is file stages old new m plan told = ap (λ p. and_then p (λ ss. Ok (printed (plan_text (plan_of ss))))) (plan m told)

-- nothing was put
nothing-put : (old new : Option Names) → new ≡ old → WerePut old [] new
nothing-put old new same n e x is = sym e ∙ sym same ∙ is

pub file-plan-unprinted : (handed : Handed) (file : List ℕ) (stages : List StageSpec) (files out : Type 0) (old new : Option Names) (out0 out1 : Option (List ℕ)) (text : List ℕ) (r : Refusal) → r ≡ of.Device at.Out op.Write → out
    → new ≡ old → ((m : Names) → old ≡ Some m → plan_in m file ≡ Ok stages) → text ≡ plan_text (plan_of stages) → AppendsPart out0 text out1
    → WasRefused handed (Ok (Plan_file file)) files out old new out0 out1 r
file-plan-unprinted handed file stages files out old new out0 out1 text r is rose same plan text-is report =
    unprinted handed (Plan_file file) files out old new out0 out1 r is rose part
    (λ m t. (rose, subst IsOk (sym (plan m t)) refl))
    (λ m t. part_put (planned m file) old new out0 out1 (part m t))
  where
    part : (m : Names) → old ≡ Some m → IsOkAnd (planned m file) (IsPartDone old new out0 out1)
    part m t = subst (λ p. IsOkAnd p (IsPartDone old new out0 out1)) (sym (plan-is file stages old new m plan t))
        (record { put = nothing-put old new same; report = subst (λ bytes. AppendsPart out0 bytes out1) text-is report })
