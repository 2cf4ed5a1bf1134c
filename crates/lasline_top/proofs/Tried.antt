-- A trial: a file of generated points is made, and the run of a pipeline follows.
use Rattle.std.proofs.Common.{◌≡◌, ◌++◌, ℕ, List, Option, Some, None, option_map, is_some, true, Result, Ok, Err, IsOkAnd, refl, ap, subst, sym, ◌∙◌, inl, inr}
use Rattle.file_devices.specs.Content.{Appends, AppendsPart}
use Rattle.file_devices.proofs.ContentLemmas.{appends_more}
use Rattle.file_devices.specs.Named.{Names, put}
use Rattle.file_devices.specs.declared.devices.Op.TheVariants as op
use Rattle.cloud_gen.specs.GeneratedFile.{generated_file, IsPut}
use Rattle.file_devices.specs.declared.devices.Op.{Op}
use Rattle.run_report.specs.declared.refusal.Place.{Place}
use Rattle.run_report.specs.declared.refusal.Place.TheVariants as at
use Rattle.run_report.specs.declared.refusal.Refusal.{Refusal}
use Rattle.run_report.specs.declared.refusal.Refusal.TheVariants as of
use Rattle.run_report.specs.declared.report.StageCount.{StageCount}
use Rattle.run_report.specs.Reports.{report_of}
use Rattle.run_report.proofs.Lines.{part_of_first, part_of_second}
use Rattle.answer_model.specs.Steps.{and_then}
use Rattle.answer_model.specs.Runs.{Run}
use Rattle.run_outcome.specs.Cause.{Because, WerePut, IsRun, IsDone, IsPartDone, IsLeft}
use Rattle.lasline_top.specs.Texts.{generated_line}
use Rattle.lasline_top.specs.Words.{Engine, Trial, stop_in}
use Rattle.lasline_top.specs.Answer.{made, behind, runnable_in, text_run, trial_name, trial_text, with_trial, trial_run, done}
use Rattle.lasline_top.specs.Cause.{IsOfRun, AtStages, AtTask, AtTrial}
use Rattle.lasline_top.specs.Left.{IsTrialLeft}
use Rattle.lasline_top.specs.Ends.{WasDone, WasRefused, WasStopped}
use Rattle.lasline_top.proofs.Planned.{because-then}
use Rattle.lasline_top.proofs.Printed.{ok-only, ok-more, unprinted}
use Rattle.lasline_top.proofs.Absent.{risen_more, absent_behind}
use Rattle.lasline_top.proofs.Ran.{because-more}
use Rattle.plug_stages.specs.Handed.{Handed}

-- ---- the map behind the file that was made

-- where the map is told at the end, it told the file before the run
pub told-between : (count : ℕ) (old middle new : Option Names) (m : Names) → IsPut old trial_name (generated_file count) middle → (middle ≡ None → new ≡ None) → old ≡ Some m → is_some new ≡ true
    → middle ≡ Some (with_trial m count)
told-between count old None new m put-in untold told end = absurd (let none = untold refl in let e = ap is_some (sym none) ∙ end in cc)
told-between count old (Some n) new m put-in untold told end =
    sym (put-in n refl) ∙ ap (option_map (λ o. put o trial_name (generated_file count))) told

-- ---- refusals

-- what refuses the run of the pipeline refuses the trial
module _ (handed : Handed) (count : ℕ) (engine : Engine) (files out : Type 0) where
  trial-because : (m : Names) (r : Refusal) → Because (trial_run handed m count) (AtTrial handed files out m count) r → Because (done handed m (Trial count engine)) (AtTask handed files out m (Ok (Trial count engine))) r
  trial-because m r h =
      because-then r (trial_run handed m count) (λ run. Ok (behind (made count trial_name) run)) (AtTrial handed files out m count) (AtTask handed files out m (Ok (Trial count engine))) (λ p o h. h) h

  run-left : (r : Refusal) (old new : Option Names) (m : Names) → IsOfRun r → IsLeft r (Some (with_trial m count)) new (trial_run handed m count) → IsTrialLeft handed r old new m count
  run-left of.Memory old new m inside left = inr left
  run-left (of.Data i f) old new m inside left = left
  run-left (of.Pipeline f) old new m inside left = left
  run-left (of.Device (at.Stage i) o) old new m inside left = left
  run-left (of.Device at.PipelineFile o) old new m inside left = absurd inside
  run-left (of.Device at.Generated o) old new m inside left = absurd inside
  run-left (of.Device at.Out o) old new m inside left = absurd inside
  run-left (of.Usage k) old new m inside left = absurd inside

  at-trial : (rose : Type 0) (m : Names) → (rose → files) → (p : Place) (o : Op) → AtStages handed rose ⊥ (with_trial m count) (runnable_in handed trial_text) ⊥ p o → AtTrial handed files out m count p o
  at-trial rose m more (at.Stage i) o h = (more h.0, h.1)
  at-trial rose m more at.PipelineFile o h = absurd h
  at-trial rose m more at.Generated o h = absurd h
  at-trial rose m more at.Out op.Write h = absurd h.0
  at-trial rose m more at.Out op.Open h = absurd h
  at-trial rose m more at.Out op.Read h = absurd h
  at-trial rose m more at.Out op.Create h = absurd h
  at-trial rose m more at.Out op.Patch h = absurd h
  at-trial rose m more at.Out op.Keep h = absurd h

  pub trial-stopped : (rose : Type 0) (text : List ℕ) (old middle new : Option Names) (out0 out1 : Option (List ℕ)) (r : Refusal) → out1 ≡ out0 → IsPut old trial_name (generated_file count) middle → text ≡ trial_text
      → (rose → files) → (middle ≡ None → new ≡ None) → WasStopped handed (stop_in engine) rose middle new text r → WasRefused handed (Ok (Trial count engine)) files out old new out0 out1 r
  trial-stopped rose text old middle new out0 out1 r quiet put-in is more untold text-stopped = record {
    because = λ m t. elim (stopped.because (with_trial m count) (told-between count old middle new m put-in untold t.0 t.1)) [
      | inl b ↦ inl (trial-because m r (because-more r (trial_run handed m count) (AtStages handed rose ⊥ (with_trial m count) (runnable_in handed trial_text) ⊥) (AtTrial handed files out m count) (at-trial rose m more) b))
      | inr s ↦ inr s
    ];
    risen = risen_more rose ⊥ files out middle old r more (λ never. absurd never) (absent_behind trial_name (generated_file count) old middle put-in) stopped.risen;
    out_risen = λ o e. absurd (subst IsOfRun e stopped.of_run);
    left = λ m t. let told = told-between count old middle new m put-in untold t.0 t.1 in
        run-left r old new m stopped.of_run (subst (λ o. IsLeft r o new (trial_run handed m count)) told (stopped.left (with_trial m count) told));
    quiet = inl quiet;
  }
    where
      stopped : WasStopped handed (stop_in engine) rose middle new trial_text r
      stopped = subst (λ b. WasStopped handed (stop_in engine) rose middle new b r) is text-stopped

-- ---- runs that were right

-- what the pipeline came to, over the map with the file
pub trial-ran : (handed : Handed) (count : ℕ) (text : List ℕ) (counts : List StageCount) (old middle new : Option Names) → IsPut old trial_name (generated_file count) middle → text ≡ trial_text → (middle ≡ None → new ≡ None)
    → ((m : Names) → middle ≡ Some m → IsOkAnd (text_run handed m text) (IsRun middle new counts)) → (m : Names) → (old ≡ Some m) × (is_some new ≡ true)
    → IsOkAnd (trial_run handed m count) (IsRun (Some (with_trial m count)) new counts)
trial-ran handed count text counts old middle new put-in is untold run m t =
    let told = told-between count old middle new m put-in untold t.0 t.1 in
    subst (λ b. IsOkAnd (text_run handed (with_trial m count) b) (IsRun (Some (with_trial m count)) new counts)) is
    (subst (λ o. IsOkAnd (text_run handed (with_trial m count) text) (IsRun o new counts)) told (run (with_trial m count) told))

-- the file and the outputs of the run were put then
behind-put : (count : ℕ) (old new : Option Names) (m : Names) (run : Run) → old ≡ Some m → WerePut (Some (with_trial m count)) run.outputs new → WerePut old (behind (made count trial_name) run).outputs new
behind-put count old new m run told h n e = let same : Some n ≡ Some m = sym e ∙ told in let is : n ≡ m = cc in rw is (h (with_trial m count) refl)

pub trial-done : (handed : Handed) (count : ℕ) (engine : Engine) (old new : Option Names) (counts shown : List StageCount) (out0 out1 out2 : Option (List ℕ)) → shown ≡ counts
    → ((m : Names) → (old ≡ Some m) × (is_some new ≡ true) → IsOkAnd (trial_run handed m count) (IsRun (Some (with_trial m count)) new counts))
    → Appends out0 (generated_line count) out1 → Appends out1 (report_of shown) out2 → WasDone handed (Ok (Trial count engine)) old new out0 out2
trial-done handed count engine old new counts shown out0 out1 out2 same run line report m t = go (trial_run handed m count) (run m t)
  where
    go : (r : Result Run Refusal) → IsOkAnd r (IsRun (Some (with_trial m count)) new counts) → IsOkAnd (and_then r (λ run. Ok (behind (made count trial_name) run))) (IsDone old new out0 out2)
    go (Ok x) h = record {
      put = behind-put count old new m x t.0 h.put;
      report = appends_more out0 out1 out2 (generated_line count) x.report line (subst (λ text. Appends out1 text out2) (ap report_of same ∙ sym h.report) report);
    }
    go (Err e) h = absurd h

-- where only a text couldn't be printed
pub trial-unprinted : (handed : Handed) (count : ℕ) (engine : Engine) (files out : Type 0) (old new : Option Names) (counts : List StageCount) (out0 out1 : Option (List ℕ)) (r : Refusal) → r ≡ of.Device at.Out op.Write → out
    → ((m : Names) → (old ≡ Some m) × (is_some new ≡ true) → IsOkAnd (trial_run handed m count) (IsRun (Some (with_trial m count)) new counts))
    → AppendsPart out0 (generated_line count ++ report_of counts) out1 → WasRefused handed (Ok (Trial count engine)) files out old new out0 out1 r
trial-unprinted handed count engine files out old new counts out0 out1 r is rose run text =
    unprinted handed (Trial count engine) files out old new out0 out1 r is rose
    (λ m t. go m t (trial_run handed m count) (run m t))
    (λ m t. (rose, ok-only (trial_run handed m count) (IsRun (Some (with_trial m count)) new counts) (run m t)))
    (λ m t. ok-more (trial_run handed m count) (IsRun (Some (with_trial m count)) new counts) (λ x. WerePut (Some (with_trial m count)) x.outputs new) (λ x h. h.put) (run m t))
  where
    go : (m : Names) → (old ≡ Some m) × (is_some new ≡ true) → (r : Result Run Refusal) → IsOkAnd r (IsRun (Some (with_trial m count)) new counts)
        → IsOkAnd (and_then r (λ run. Ok (behind (made count trial_name) run))) (IsPartDone old new out0 out1)
    go m t (Ok x) h = record {
      put = behind-put count old new m x t.0 h.put;
      report = subst (λ report. AppendsPart out0 (generated_line count ++ report) out1) (sym h.report) text;
    }
    go m t (Err e) h = absurd h

-- the line, or a part of the report behind it
pub line-part : (count : ℕ) (counts : List StageCount) (out0 out1 : Option (List ℕ)) → AppendsPart out0 (generated_line count) out1 → AppendsPart out0 (generated_line count ++ report_of counts) out1
line-part count counts out0 out1 part = part_of_first (generated_line count) (report_of counts) out0 out1 part

pub report-part : (count : ℕ) (counts shown : List StageCount) (out0 out1 out2 : Option (List ℕ)) → shown ≡ counts → Appends out0 (generated_line count) out1 → AppendsPart out1 (report_of shown) out2
    → AppendsPart out0 (generated_line count ++ report_of counts) out2
report-part count counts shown out0 out1 out2 same line part =
    part_of_second (generated_line count) (report_of counts) out0 out1 out2 line (subst (λ cs. AppendsPart out1 (report_of cs) out2) same part)
