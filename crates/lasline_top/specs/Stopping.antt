-- What a command may come to whose turns end at the first fault.
use Rattle.std.specs.Prelude.{◌≡◌, ◌⊎◌, List, Result, Ok, Err, IsOkAnd}
use Rattle.file_devices.specs.Named.{Names}
use Rattle.network_core.specs.declared.stop.Stop.{Stop}
use Rattle.network_core.specs.declared.stop.Stop.TheVariants.{First}
use Rattle.stage_options.specs.declared.stage.StageSpec.{StageSpec}
use Rattle.run_report.specs.declared.refusal.Refusal.{Refusal}
use Rattle.run_report.specs.declared.refusal.Refusal.TheVariants.{Data}
use Rattle.answer_model.specs.Runs.{Run}
use Rattle.run_engine.specs.Stopping.{IsFaultIn}
use Rattle.lasline_top.specs.declared.status.Status.{Status}
use Rattle.lasline_top.specs.Words.{Task, Run_file, Trial, stop_in}
use Rattle.lasline_top.specs.Answer.{answered, runnable_in, runnable_of, status_of, trial_text, with_trial}
use Rattle.plug_stages.specs.Handed.{Handed}

-- a stage of this pipeline has the fault, and turns end at the first one
abbrev pub IsSeen : Stop → Handed → Names → Result (List StageSpec) Refusal → Refusal → Type 0
IsSeen First handed m plan (Data i f) = IsOkAnd plan (λ stages. IsFaultIn handed m stages i f)
IsSeen stop handed m plan refusal = ⊥

-- so it is in the run of a task
abbrev pub IsSeenBy : Handed → Result Task Refusal → Names → Refusal → Type 0
IsSeenBy handed (Ok (Run_file file engine)) m refusal = IsSeen (stop_in engine) handed m (runnable_of handed m file) refusal
IsSeenBy handed (Ok (Trial count engine)) m refusal = IsSeen (stop_in engine) handed (with_trial m count) (runnable_in handed trial_text) refusal
IsSeenBy handed task m refusal = ⊥

-- what a task may come to over these files: what it comes to where all is done, or, where turns end at the first fault, the refusal for
-- the fault of any stage
abbrev pub MayCome : Handed → Result Task Refusal → Names → Result Run Refusal → Type 0
MayCome handed task m (Ok run) = answered handed task m ≡ Ok run
MayCome handed task m (Err refusal) = (answered handed task m ≡ Err refusal) ⊎ IsSeenBy handed task m refusal

-- with this status
abbrev pub MayEnd : Handed → Result Task Refusal → Names → Status → Type 0
MayEnd handed task m status = (r : Result Run Refusal) × MayCome handed task m r × (status ≡ status_of r)
