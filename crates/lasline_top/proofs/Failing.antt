-- Where no device fails, none is named.
use Rattle.std.proofs.Common.{◌≡◌, ◌⊎◌, ℕ, List, Result, Ok, Err, IsOk, inl, inr}
use Rattle.file_devices.specs.declared.devices.Op.{Op}
use Rattle.file_devices.specs.declared.devices.Op.TheVariants.{Open, Read, Create, Write, Patch, Keep}
use Rattle.file_devices.specs.Named.{Names}
use Rattle.run_report.specs.declared.refusal.Place.{Place}
use Rattle.run_report.specs.declared.refusal.Place.TheVariants.{PipelineFile, Generated, Stage, Out}
use Rattle.run_report.specs.declared.refusal.Refusal.{Refusal}
use Rattle.run_report.specs.declared.refusal.Refusal.TheVariants.{Usage, Pipeline, Data, Device, Memory}
use Rattle.run_outcome.specs.Cause.{Because}
use Rattle.lasline_top.specs.declared.status.Status.{Status}
use Rattle.lasline_top.specs.declared.status.Status.TheVariants as status
use Rattle.lasline_top.specs.Refusals.{status_for}
use Rattle.lasline_top.specs.Words.{Task, Run_file, Plan_file, Make_file, Trial, Print}
use Rattle.lasline_top.specs.Answer.{answered, plan_in, ran, trial_run}
use Rattle.lasline_top.specs.Cause.{AtText, AtOut, AtFile, AtPlan, AtMade, AtTrial, AtTask}
use Rattle.lasline_top.specs.Stopping.{IsSeenBy, MayEnd}
use Rattle.plug_stages.specs.Handed.{Handed}

no_text : (files : Type 0) (o : Op) → (files → ⊥) → AtText files PipelineFile o → ⊥
no_text files Open none h = none h
no_text files Read none h = none h
no_text files Create none h = h
no_text files Write none h = h
no_text files Patch none h = h
no_text files Keep none h = h

no_out : (out right : Type 0) (o : Op) → (out → ⊥) → AtOut (out × right) o → ⊥
no_out out right Open none h = h
no_out out right Read none h = h
no_out out right Create none h = h
no_out out right Write none h = none h.0
no_out out right Patch none h = h
no_out out right Keep none h = h

no_page : (out : Type 0) (o : Op) → (out → ⊥) → AtOut out o → ⊥
no_page out Open none h = h
no_page out Read none h = h
no_page out Create none h = h
no_page out Write none h = none h
no_page out Patch none h = h
no_page out Keep none h = h

no_file : (handed : Handed) (files out : Type 0) (m : Names) (file : List ℕ) (p : Place) (o : Op) → (files → ⊥) → (out → ⊥) → AtFile handed files out m file p o → ⊥
no_file handed files out m file PipelineFile o no_files no_output h = no_text files o no_files h
no_file handed files out m file Generated o no_files no_output h = h
no_file handed files out m file (Stage i) o no_files no_output h = no_files h.0
no_file handed files out m file Out o no_files no_output h = no_out out (IsOk (ran handed m file)) o no_output h

no_plan : (files out : Type 0) (m : Names) (file : List ℕ) (p : Place) (o : Op) → (files → ⊥) → (out → ⊥) → AtPlan files out m file p o → ⊥
no_plan files out m file PipelineFile o no_files no_output h = no_text files o no_files h
no_plan files out m file Generated o no_files no_output h = h
no_plan files out m file (Stage i) o no_files no_output h = h
no_plan files out m file Out o no_files no_output h = no_out out (IsOk (plan_in m file)) o no_output h

no_made : (files out : Type 0) (p : Place) (o : Op) → (files → ⊥) → (out → ⊥) → AtMade files out p o → ⊥
no_made files out Generated Create no_files no_output h = no_files h
no_made files out Generated Write no_files no_output h = no_files h
no_made files out Generated Patch no_files no_output h = no_files h
no_made files out Generated Keep no_files no_output h = no_files h
no_made files out Generated Open no_files no_output h = h
no_made files out Generated Read no_files no_output h = h
no_made files out PipelineFile o no_files no_output h = h
no_made files out (Stage i) o no_files no_output h = h
no_made files out Out o no_files no_output h = no_page out o no_output h

no_trial : (handed : Handed) (files out : Type 0) (m : Names) (count : ℕ) (p : Place) (o : Op) → (files → ⊥) → (out → ⊥) → AtTrial handed files out m count p o → ⊥
no_trial handed files out m count Generated o no_files no_output h = no_made files out Generated o no_files no_output h
no_trial handed files out m count PipelineFile o no_files no_output h = h
no_trial handed files out m count (Stage i) o no_files no_output h = no_files h.0
no_trial handed files out m count Out o no_files no_output h = no_out out (IsOk (trial_run handed m count)) o no_output h

no_task : (handed : Handed) (files out : Type 0) (m : Names) (task : Result Task Refusal) (p : Place) (o : Op) → (files → ⊥) → (out → ⊥) → AtTask handed files out m task p o → ⊥
no_task handed files out m (Ok (Run_file file engine)) p o no_files no_output h = no_file handed files out m file p o no_files no_output h
no_task handed files out m (Ok (Plan_file file)) p o no_files no_output h = no_plan files out m file p o no_files no_output h
no_task handed files out m (Ok (Make_file count name)) p o no_files no_output h = no_made files out p o no_files no_output h
no_task handed files out m (Ok (Trial count engine)) p o no_files no_output h = no_trial handed files out m count p o no_files no_output h
no_task handed files out m (Ok (Print text)) p o no_files no_output h = no_page out o no_output h.1
no_task handed files out m (Err refusal) p o no_files no_output h = h

-- where no device fails, the answer is one that is defined, or want of memory
pub answer_or_memory : (handed : Handed) (files out : Type 0) (m : Names) (task : Result Task Refusal) (refusal : Refusal) (s : Status) → s ≡ status_for refusal → (files → ⊥) → (out → ⊥)
    → Because (answered handed task m) (AtTask handed files out m task) refusal ⊎ IsSeenBy handed task m refusal → MayEnd handed task m s ⊎ (s ≡ status.Memory)
answer_or_memory handed files out m task Memory s is no_files no_output h = inr is
answer_or_memory handed files out m task (Usage k) s is no_files no_output h = inl (Err (Usage k), h, is)
answer_or_memory handed files out m task (Pipeline f) s is no_files no_output h = inl (Err (Pipeline f), h, is)
answer_or_memory handed files out m task (Data i f) s is no_files no_output h = inl (Err (Data i f), h, is)
answer_or_memory handed files out m task (Device p o) s is no_files no_output (inl (inl h)) = inl (Err (Device p o), inl h, is)
answer_or_memory handed files out m task (Device p o) s is no_files no_output (inl (inr h)) = absurd (no_task handed files out m task p o no_files no_output h)
answer_or_memory handed files out m task (Device p o) s is no_files no_output (inr h) = inl (Err (Device p o), inr h, is)
