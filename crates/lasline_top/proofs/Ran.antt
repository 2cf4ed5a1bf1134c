-- What the run of a pipeline comes to, the command does.
use Rattle.std.proofs.Common.{◌≡◌, ℕ, List, Option, Some, Result, Ok, Err, ◌⊎◌, IsOkAnd, IfErr, refl, ap, subst, sym, ◌∙◌, inl, inr}
use Rattle.file_devices.specs.Named.{Names}
use Rattle.file_devices.specs.Content.{Appends, AppendsPart}
use Rattle.file_devices.specs.declared.devices.Op.{Op}
use Rattle.file_devices.specs.declared.devices.Op.TheVariants as op
use Rattle.stage_options.specs.declared.stage.StageSpec.{StageSpec}
use Rattle.run_report.specs.declared.refusal.Place.{Place}
use Rattle.run_report.specs.declared.refusal.Place.TheVariants as at
use Rattle.run_report.specs.declared.refusal.Refusal.{Refusal}
use Rattle.run_report.specs.declared.refusal.Refusal.TheVariants as of
use Rattle.run_report.specs.declared.report.StageCount.{StageCount}
use Rattle.run_report.specs.Reports.{report_of}
use Rattle.answer_model.specs.Steps.{and_then}
use Rattle.answer_model.specs.Runs.{Run, file_at, run_of}
use Rattle.network_core.specs.declared.stop.Stop.{Stop}
use Rattle.network_core.specs.declared.stop.Stop.TheVariants.{Last, First}
use Rattle.run_report.specs.declared.refusal.Fault.{Fault}
use Rattle.run_outcome.specs.Cause.{Because, IsLeft, IsRun, IsDone, IsPartDone, MayFail}
use Rattle.run_engine.specs.declared.engine.Engine.{Engine as Chosen}
use Rattle.run_engine.specs.declared.engine.Engine.TheVariants as chosen
use Rattle.run_engine.specs.Stopping.{IsCauseBy, IsFaultIn, IsRefusedFor, ends_at}
use Rattle.lasline_top.specs.Tasks.{engine_view}
use Rattle.lasline_top.specs.Words.{Engine, Run_file, stop_in}
use Rattle.lasline_top.specs.Answer.{named, ran, runnable_in, stages_in, text_run}
use Rattle.lasline_top.specs.Cause.{IsOfRun, AtStages}
use Rattle.lasline_top.specs.Ends.{WasRefused, WasStopped}
use Rattle.lasline_top.specs.Stopping.{IsSeen}
use Rattle.lasline_top.proofs.Absent.{cause_risen}
use Rattle.lasline_top.proofs.Printed.{part_ok, part_put, unprinted}
use Rattle.plug_stages.specs.Handed.{Handed}

-- ---- refusals of a run

-- a cause for more devices
pub because-more : {A : Type 0} (r : Refusal) (expected : Result A Refusal) (failed later : Place → Op → Type 0) → ((p : Place) (o : Op) → failed p o → later p o) → Because expected failed r → Because expected later r
because-more of.Memory expected failed later more h = tt
because-more (of.Device p o) expected failed later more (inl e) = inl e
because-more (of.Device p o) expected failed later more (inr h) = inr (more p o h)
because-more (of.Data i f) expected failed later more h = h
because-more (of.Pipeline f) expected failed later more h = h
because-more (of.Usage k) expected failed later more h = h

-- why the run of a text is refused, by the cause of the run of its stages
module _ (handed : Handed) (stop : Stop) (rose : Type 0) (old new : Option Names) (text : List ℕ) (stages : List StageSpec) (is : runnable_in handed text ≡ Ok stages) where
  of-run : (r : Refusal) → IsCauseBy stop rose handed old stages r → IsOfRun r
  of-run of.Memory c = tt
  of-run (of.Data i f) c = tt
  of-run (of.Pipeline f) c = tt
  of-run (of.Device (at.Stage i) o) c = tt
  of-run (of.Device at.PipelineFile o) c = absurd c
  of-run (of.Device at.Generated o) c = absurd c
  of-run (of.Device at.Out o) c = absurd c
  of-run (of.Usage k) c = absurd c

  answers : (r : Refusal) (m : Names) → run_of handed m stages ≡ Err r → text_run handed m text ≡ Err r
  answers r m e = ap (λ p. and_then p (run_of handed m)) is ∙ e

  seen-because : (ends : Stop) (i : ℕ) (f : Fault) (m : Names) → IsRefusedFor ends handed m stages i f → (text_run handed m text ≡ Err (of.Data i f)) ⊎ IsSeen ends handed m (runnable_in handed text) (of.Data i f)
  seen-because Last i f m c = inl (answers (of.Data i f) m c)
  seen-because First i f m (inl c) = inl (answers (of.Data i f) m c)
  seen-because First i f m (inr c) = inr (subst (λ p. IsOkAnd p (λ ss. IsFaultIn handed m ss i f)) (sym is) c)

  run-because : (r : Refusal) (m : Names) → old ≡ Some m → IsCauseBy stop rose handed old stages r → Because (text_run handed m text) (AtStages handed rose ⊥ m (runnable_in handed text) ⊥) r ⊎ IsSeen stop handed m (runnable_in handed text) r
  run-because of.Memory m t c = inl tt
  run-because (of.Data i f) m t c = seen-because stop i f m (c m t)
  run-because (of.Pipeline f) m t c = inl (answers (of.Pipeline f) m (c m t))
  run-because (of.Device (at.Stage i) o) m t (inl a) =
      let told : Some a.0 ≡ Some m = sym a.1 ∙ t in
      let one : a.0 ≡ m = cc in
      inl (inl (answers (of.Device (at.Stage i) o) m (subst (λ n. run_of handed n stages ≡ Err (of.Device (at.Stage i) o)) one a.2)))
  run-because (of.Device (at.Stage i) o) m t (inr a) = inl (inr (a.0, subst (λ p. IsOkAnd p (λ ss. MayFail handed m ss i o)) (sym is) (a.1 m t)))
  run-because (of.Device at.PipelineFile o) m t c = absurd c
  run-because (of.Device at.Generated o) m t c = absurd c
  run-because (of.Device at.Out o) m t c = absurd c
  run-because (of.Usage k) m t c = absurd c

  run-stopped : (r : Refusal) → IsCauseBy stop rose handed old stages r → ((m : Names) → old ≡ Some m → IsLeft r old new (run_of handed m stages)) → WasStopped handed stop rose old new text r
  run-stopped r c left = record {
    of_run = of-run r c;
    because = λ m t. run-because r m t c;
    risen = cause_risen handed stop rose old stages r c;
    left = λ m t. subst (λ p. IsLeft r old new (and_then p (run_of handed m))) (sym is) (left m t);
  }

  pub if-stopped : {T : Type 0} (result : Result T Refusal) → IfErr result (IsCauseBy stop rose handed old stages) → IfErr result (λ r. (m : Names) → old ≡ Some m → IsLeft r old new (run_of handed m stages))
      → IfErr result (WasStopped handed stop rose old new text)
  if-stopped (Ok x) c left = tt
  if-stopped (Err r) c left = run-stopped r c left

-- the turns of stages end as those of the command's engine do
pub ends-so : (engine : Chosen) (stop : Stop) → ends_at engine stop ≡ stop_in (engine_view stop engine)
ends-so (chosen.Queues shape) stop = refl
ends-so chosen.Whole stop = refl

-- ---- the run of a file

-- what the run of its text comes to, that of a file does
pub ran-as : (handed : Handed) (file text : List ℕ) (counts : List StageCount) (old middle new : Option Names) → ((m : Names) → old ≡ Some m → file_at (m file) at.PipelineFile ≡ Ok text) → middle ≡ old
    → ((m : Names) → middle ≡ Some m → IsOkAnd (text_run handed m text) (IsRun middle new counts)) → (m : Names) → old ≡ Some m → IsOkAnd (ran handed m file) (IsRun old new counts)
ran-as handed file text counts old middle new is same run m t =
    subst (λ p. IsOkAnd (and_then (and_then (and_then p stages_in) (named handed)) (run_of handed m)) (IsRun old new counts)) (sym (is m t))
    (subst (λ o. IsOkAnd (text_run handed m text) (IsRun o new counts)) same (run m (same ∙ t)))

pub done_is : (r : Result Run Refusal) (old new : Option Names) (counts shown : List StageCount) (out0 out1 : Option (List ℕ)) → shown ≡ counts → IsOkAnd r (IsRun old new counts) → Appends out0 (report_of shown) out1
    → IsOkAnd r (IsDone old new out0 out1)
done_is (Ok run) old new counts shown out0 out1 same h report = record { put = h.put; report = subst (λ text. Appends out0 text out1) (ap report_of same ∙ sym h.report) report }
done_is (Err s) old new counts shown out0 out1 same h report = absurd h

pub part_done_is : (r : Result Run Refusal) (old new : Option Names) (counts shown : List StageCount) (out0 out1 : Option (List ℕ)) → shown ≡ counts → IsOkAnd r (IsRun old new counts) → AppendsPart out0 (report_of shown) out1
    → IsOkAnd r (IsPartDone old new out0 out1)
part_done_is (Ok run) old new counts shown out0 out1 same h report = record { put = h.put; report = subst (λ text. AppendsPart out0 text out1) (ap report_of same ∙ sym h.report) report }
part_done_is (Err s) old new counts shown out0 out1 same h report = absurd h

-- where only its report couldn't be printed
pub run-unprinted : (handed : Handed) (file : List ℕ) (engine : Engine) (files out : Type 0) (old new : Option Names) (counts shown : List StageCount) (out0 out1 : Option (List ℕ)) (r : Refusal) → r ≡ of.Device at.Out op.Write → out → shown ≡ counts
    → ((m : Names) → old ≡ Some m → IsOkAnd (ran handed m file) (IsRun old new counts)) → AppendsPart out0 (report_of shown) out1
    → WasRefused handed (Ok (Run_file file engine)) files out old new out0 out1 r
run-unprinted handed file engine files out old new counts shown out0 out1 r is rose same run report =
    unprinted handed (Run_file file engine) files out old new out0 out1 r is rose part
    (λ m t. (rose, part_ok (ran handed m file) old new out0 out1 (part m t)))
    (λ m t. part_put (ran handed m file) old new out0 out1 (part m t))
  where
    part : (m : Names) → old ≡ Some m → IsOkAnd (ran handed m file) (IsPartDone old new out0 out1)
    part m t = part_done_is (ran handed m file) old new counts shown out0 out1 same (run m t) report
