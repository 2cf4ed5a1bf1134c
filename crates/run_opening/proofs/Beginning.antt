-- The works of the first stages are at their start.
use Rattle.std.proofs.Common.{◌≡◌, ℕ, ◌<◌, true, List, length, Option, Some, IsOk, sym, subst, inr}
use Rattle.file_devices.specs.Named.{Names}
use Rattle.file_devices.specs.declared.devices.Op.TheVariants as op
use Rattle.stage_options.specs.Roles.{Role, Reads, Filters, Gathers, Writes, WritesEach, is_writing}
use Rattle.stage_options.specs.declared.stage.StageSpec.{StageSpec}
use Rattle.run_report.specs.declared.refusal.Refusal.{Refusal}
use Rattle.run_report.specs.declared.refusal.Refusal.TheVariants as of
use Rattle.run_report.specs.declared.refusal.Place.TheVariants as at
use Rattle.answer_model.specs.Values.{role_at}
use Rattle.answer_model.specs.Runs.{AreRead, run_of}
use Rattle.run_outcome.specs.Cause.{CanBegin, IsCause, AtRole}
use Rattle.run_opening.specs.Opening.{IsUncreated}
use Rattle.plug_stages.specs.Handed.{Handed}

at-writer : (earlier all right : Type 0) (role : Role) → is_writing role ≡ true → all → AtRole earlier all right role op.Create × AtRole earlier all right role op.Write
at-writer earlier all right (Reads name) w a = cc
at-writer earlier all right Filters w a = cc
at-writer earlier all right Gathers w a = cc
at-writer earlier all right (WritesEach name) w a = cc
at-writer earlier all right (Writes name) w a = (a, a)

-- a writer whose file couldn't be created or begun is the cause, once all readers' files were read and all names are bound
pub uncreated-cause : {K : Type 0} (faults : K → ℕ) (made rose : Type 0) (handed : Handed) (map : Option Names) (stages : List StageSpec) (i : ℕ) (sink : Option K) (refusal : Refusal) → (made → rose)
    → ((k : K) → sink ≡ Some k → 0 < faults k → rose) → i < length stages → ((m : Names) → map ≡ Some m → CanBegin handed m stages)
    → is_writing (role_at stages i) ≡ true → IsUncreated faults made i sink refusal → IsCause rose handed map stages refusal
uncreated-cause faults made rose handed map stages i sink of.Memory by_files by_sink lt come writes why = tt
uncreated-cause faults made rose handed map stages i sink (of.Device (at.Stage j) op.Create) by_files by_sink lt come writes why = subst (λ k. IsCause rose handed map stages (of.Device (at.Stage k) op.Create)) (sym why.0)
    (inr (by_files why.2, λ m e. record { inside = lt; come = (at-writer (AreRead m stages i) (CanBegin handed m stages) (IsOk (run_of handed m stages)) (role_at stages i) writes (come m e)).0; patched = λ p. cc }))
uncreated-cause faults made rose handed map stages i sink (of.Device (at.Stage j) op.Write) by_files by_sink lt come writes why = subst (λ k. IsCause rose handed map stages (of.Device (at.Stage k) op.Write)) (sym why.0)
    (inr (by_sink why.1.0 why.1.1 why.1.2, λ m e. record { inside = lt; come = (at-writer (AreRead m stages i) (CanBegin handed m stages) (IsOk (run_of handed m stages)) (role_at stages i) writes (come m e)).1; patched = λ p. cc }))
uncreated-cause faults made rose handed map stages i sink (of.Device (at.Stage j) op.Open) by_files by_sink lt come writes why = absurd why
uncreated-cause faults made rose handed map stages i sink (of.Device (at.Stage j) op.Read) by_files by_sink lt come writes why = absurd why
uncreated-cause faults made rose handed map stages i sink (of.Device (at.Stage j) op.Patch) by_files by_sink lt come writes why = absurd why
uncreated-cause faults made rose handed map stages i sink (of.Device (at.Stage j) op.Keep) by_files by_sink lt come writes why = absurd why
uncreated-cause faults made rose handed map stages i sink (of.Device at.PipelineFile o) by_files by_sink lt come writes why = absurd why
uncreated-cause faults made rose handed map stages i sink (of.Device at.Generated o) by_files by_sink lt come writes why = absurd why
uncreated-cause faults made rose handed map stages i sink (of.Device at.Out o) by_files by_sink lt come writes why = absurd why
uncreated-cause faults made rose handed map stages i sink (of.Data j f) by_files by_sink lt come writes why = absurd why
uncreated-cause faults made rose handed map stages i sink (of.Pipeline f) by_files by_sink lt come writes why = absurd why
uncreated-cause faults made rose handed map stages i sink (of.Usage k) by_files by_sink lt come writes why = absurd why
