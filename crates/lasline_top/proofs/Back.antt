-- What a command leaves of what the caller handed in.
use Rattle.std.proofs.Common.{◌≡◌, ℕ, List, Option, Some, None, Result, Ok, Err, OnOk, refl, subst, sym}
use Rattle.answer_model.specs.Naming.{AreBack}
use Rattle.answer_model.specs.Runs.{file_at}
use Rattle.answer_model.specs.Steps.{and_then}
use Rattle.file_devices.specs.Named.{Names}
use Rattle.cloud_gen.specs.GeneratedFile.{IsPut, generated_file}
use Rattle.plug_stages.specs.Handed.{Handed, handed_by}
use Rattle.plug_stages.specs.declared.filter.PlugFilter as plug_type
use Rattle.plug_stages.specs.declared.places.Places.{Places}
use Rattle.plug_stages.specs.declared.tally.PlugTally as tally_type
use Rattle.run_report.specs.declared.refusal.Place.TheVariants as at
use Rattle.run_report.specs.declared.refusal.Refusal.{Refusal}
use Rattle.stage_options.specs.declared.stage.StageSpec.{StageSpec}
use Rattle.lasline_top.specs.Answer.{named, run_by, runnable_in, stages_in, stages_or, trial_name, trial_text, with_trial}
use Rattle.lasline_top.specs.Back.{IsHandedBack, IsRemembered, Remember}
use Rattle.lasline_top.proofs.Tried.{told-between}
use Rattle.lasline_top.specs.Words.{Engine, Run_file, Task, Trial}

module _ {P Q : Type 0} (fs : plug_type.Ghosts P) (ts : tally_type.Ghosts Q) where
  -- no place changed
  pub untouched : (stages : List StageSpec) (places : Places P Q) → AreBack fs ts stages places places
  untouched stages places = record { same = refl; filters = λ k unused. refl; tallies = λ k unused. refl }

  pub none-touched : (task : Result Task Refusal) (before after : Option Names) (places : Places P Q) → IsHandedBack fs ts task before after places places
  none-touched task before after places = record { same = refl; back = λ m told. untouched (run_by (handed_by fs ts places) task m) places; idle = λ _. refl }

  -- the stages of a file's text ran
  pub file-back : (file text : List ℕ) (engine : Engine) (before after : Option Names) (old new : Places P Q) → ((m : Names) → before ≡ Some m → file_at (m file) at.PipelineFile ≡ Ok text)
      → AreBack fs ts (stages_or (runnable_in (handed_by fs ts old) text)) old new → IsHandedBack fs ts (Ok (Run_file file engine)) before after old new
  file-back file text engine before after old new is back = record {
    same = back.same;
    back = λ m told. subst (λ p. AreBack fs ts (stages_or (and_then (and_then p stages_in) (named (handed_by fs ts old)))) old new) (sym (is m told)) back;
    idle = λ e. absurd cc;
  }

  -- those of the trial's text did
  pub trial-back : (count : ℕ) (text : List ℕ) (engine : Engine) (before after : Option Names) (old new : Places P Q) → text ≡ trial_text
      → AreBack fs ts (stages_or (runnable_in (handed_by fs ts old) text)) old new → IsHandedBack fs ts (Ok (Trial count engine)) before after old new
  trial-back count text engine before after old new is back = record {
    same = back.same;
    back = λ m told. subst (λ t. AreBack fs ts (stages_or (runnable_in (handed_by fs ts old) t)) old new) is back;
    idle = λ e. absurd cc;
  }

  -- ---- what is remembered

  pub always : {R E X : Type 0} (o : Result R E) → X → OnOk o X
  always (Ok r) x = x
  always (Err e) x = tt

  pub text-remembered : (handed : Handed) (text : List ℕ) (stages : List StageSpec) (told : Option Names) (new : Places P Q) {R : Type 0} (o : Result R Refusal) → runnable_in handed text ≡ Ok stages
      → OnOk o ((m : Names) → told ≡ Some m → Remember fs ts handed m stages new) → OnOk o ((m : Names) → told ≡ Some m → Remember fs ts handed m (stages_or (runnable_in handed text)) new)
  text-remembered handed text stages told new (Ok r) is left = λ m e. subst (λ p. Remember fs ts handed m (stages_or p) new) (sym is) (left m e)
  text-remembered handed text stages told new (Err e) is left = tt

  pub file-remembered : (file text : List ℕ) (engine : Engine) (before after : Option Names) (old new : Places P Q) → ((m : Names) → before ≡ Some m → file_at (m file) at.PipelineFile ≡ Ok text)
      → ((m : Names) → before ≡ Some m → Remember fs ts (handed_by fs ts old) m (stages_or (runnable_in (handed_by fs ts old) text)) new) → IsRemembered fs ts (Ok (Run_file file engine)) before after old new
  file-remembered file text engine before after old new is left = λ m told.
      subst (λ p. Remember fs ts (handed_by fs ts old) m (stages_or (and_then (and_then p stages_in) (named (handed_by fs ts old)))) new) (sym (is m told)) (left m told)

  pub trial-remembered : (count : ℕ) (text : List ℕ) (engine : Engine) (before middle after : Option Names) (old new : Places P Q) → text ≡ trial_text
      → IsPut before trial_name (generated_file count) middle → (middle ≡ None → after ≡ None)
      → ((m : Names) → middle ≡ Some m → Remember fs ts (handed_by fs ts old) m (stages_or (runnable_in (handed_by fs ts old) text)) new) → IsRemembered fs ts (Ok (Trial count engine)) before after old new
  trial-remembered count text engine before middle after old new is put-in untold left = λ m told.
      subst (λ t. Remember fs ts (handed_by fs ts old) (with_trial m count) (stages_or (runnable_in (handed_by fs ts old) t)) new) is
      (left (with_trial m count) (told-between count before middle after m put-in untold told.0 told.1))
