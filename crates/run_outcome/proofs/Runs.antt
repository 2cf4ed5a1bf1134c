-- What the run of a tree comes to.
use Rattle.std.proofs.Common.{◌≡◌, ℕ, List, length, Some, None, Ok, Err, ap, ◌∙◌}
use Rattle.file_devices.specs.Named.{Names}
use Rattle.cloud_points.specs.declared.faults.PointFault.{PointFault}
use Rattle.stage_options.specs.declared.stage.StageSpec.{StageSpec}
use Rattle.run_report.specs.Reports.{report_of}
use Rattle.run_report.specs.declared.refusal.Refusal.TheVariants as of
use Rattle.run_report.specs.declared.refusal.Fault.TheVariants as fault
use Rattle.answer_model.specs.Values.{Opened, unbound_at, unless_fault, evaluated, least_fault, outputs_of, counts_of}
use Rattle.answer_model.specs.Runs.{Run, AreRead, unread_at, unless_unread, unless_unbound, run_with, run_over, run_of, opened_in}
use Rattle.answer_model.proofs.Least.{least-nowhere}
use Rattle.run_outcome.specs.Cause.{CanBegin}
use Rattle.plug_stages.specs.Handed.{Handed}

-- where all files are read, the answer is what the stages come to
pub all-read : (handed : Handed) (m : Names) (stages : List StageSpec) → AreRead m stages (length stages) → run_of handed m stages ≡ run_over stages (opened_in handed m stages)
all-read handed m stages read = ap (λ o. unless_unread o (run_over stages (opened_in handed m stages))) (least-nowhere (unread_at m stages) (length stages) read)

-- and where all names are bound too, what they are evaluated to
all-bound : (handed : Handed) (m : Names) (stages : List StageSpec) → CanBegin handed m stages → run_of handed m stages ≡ run_with (evaluated stages (opened_in handed m stages))
all-bound handed m stages come = all-read handed m stages come.0
    ∙ ap (λ o. unless_unbound o (run_with (evaluated stages (opened_in handed m stages)))) (least-nowhere (unbound_at stages (opened_in handed m stages)) (length stages) come.1)

abbrev pub right_run : List StageSpec → Opened → Run
right_run stages opened = record { outputs = outputs_of stages opened; report = report_of (counts_of stages opened) }

pub run-right : (handed : Handed) (m : Names) (stages : List StageSpec) → CanBegin handed m stages → least_fault stages (opened_in handed m stages) ≡ None → run_of handed m stages ≡ Ok (right_run stages (opened_in handed m stages))
unfolding evaluated
run-right handed m stages come sound = all-bound handed m stages come
    ∙ ap (λ f. run_with (unless_fault f (record { outputs = outputs_of stages (opened_in handed m stages); counts = counts_of stages (opened_in handed m stages) }))) sound

pub run-fault : (handed : Handed) (m : Names) (stages : List StageSpec) (i : ℕ) (f : PointFault) → CanBegin handed m stages → least_fault stages (opened_in handed m stages) ≡ Some (i, f) → run_of handed m stages ≡ Err (of.Data i (fault.Point f))
unfolding evaluated
run-fault handed m stages i f come found = all-bound handed m stages come
    ∙ ap (λ f. run_with (unless_fault f (record { outputs = outputs_of stages (opened_in handed m stages); counts = counts_of stages (opened_in handed m stages) }))) found
