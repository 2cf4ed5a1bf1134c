-- What the end of a command says of the call.
use Rattle.std.proofs.Common.{◌≡◌, ◌⊎◌, ◌≤◌, ℕ, true, List, Result, Ok, Err, IsOkAnd, refl, ap, subst, sym, ◌∙◌, inl, inr}
use Rattle.file_devices.specs.Content.{Appends, AppendsPart}
use Rattle.file_devices.specs.Named.{Names}
use Rattle.file_devices.specs.declared.devices.Op.{Op}
use Rattle.file_devices.specs.declared.devices.Op.TheVariants as op
use Rattle.network_core.specs.declared.stop.Stop.{Stop}
use Rattle.network_core.specs.declared.stop.Stop.TheVariants.{Last, First}
use Rattle.stage_names.specs.declared.faults.PipeFault.{PipeFault}
use Rattle.stage_options.specs.declared.stage.StageSpec.{StageSpec}
use Rattle.run_report.specs.declared.refusal.Fault.{Fault}
use Rattle.run_report.specs.declared.refusal.Place.{Place}
use Rattle.run_report.specs.declared.refusal.Place.TheVariants as at
use Rattle.run_report.specs.declared.refusal.Refusal.{Refusal}
use Rattle.run_report.specs.declared.refusal.Refusal.TheVariants as of
use Rattle.run_report.specs.Faults.{fault_line}
use Rattle.answer_model.specs.Runs.{Run}
use Rattle.run_outcome.specs.Cause.{Because, IsDone}
use Rattle.lasline_top.specs.declared.status.Status.{Status}
use Rattle.lasline_top.specs.declared.status.Status.TheVariants as ends
use Rattle.lasline_top.specs.Words.{Task, Run_file, Plan_file, Make_file, Trial, Print, stop_in, task_of}
use Rattle.lasline_top.specs.Answer.{answer, runnable_in, runnable_of, trial_text, with_trial}
use Rattle.lasline_top.specs.Calls.{Seen, FilesRose, OutRose, Told, HasAnswered, HasReadAhead}
use Rattle.lasline_top.specs.Cause.{AtTask, Risen, ToldWhy}
use Rattle.lasline_top.specs.Ends.{WasDone, WasRefused}
use Rattle.lasline_top.specs.Least.{IsLeastNamed}
use Rattle.lasline_top.specs.Left.{IsLeftBy}
use Rattle.lasline_top.specs.Reading.{IsReadAhead, IsReadBy}
use Rattle.lasline_top.specs.Refusals.{status_for}
use Rattle.lasline_top.specs.Stopping.{IsSeen, IsSeenBy, MayEnd}
use Rattle.lasline_top.specs.Threads.{goes_alone}
use Rattle.lasline_top.proofs.Failing.{answer_or_memory}
use Rattle.lasline_top.proofs.Printed.{done_put, done_report}
use Rattle.lasline_top.proofs.Statuses.{status_tells}
use Rattle.plug_stages.specs.Handed.{Handed}

-- a refusal's status isn't Ok
pub never-ok : (r : Refusal) → ends.Ok ≡ status_for r → ⊥
never-ok of.Memory e = cc
never-ok (of.Usage k) e = cc
never-ok (of.Pipeline f) e = cc
never-ok (of.Data i f) e = cc
never-ok (of.Device p o) e = cc

-- a command that was done may end so
ends-ok : (handed : Handed) (words : List (List ℕ)) (m : Names) (P : Run → Type 0) → IsOkAnd (answer handed words m) P → MayEnd handed (task_of words) m ends.Ok
ends-ok handed words m P h = go (answer handed words m) refl h
  where
    go : (r : Result Run Refusal) → answer handed words m ≡ r → IsOkAnd r P → MayEnd handed (task_of words) m ends.Ok
    go (Ok run) is h = (Ok run, is, refl)
    go (Err refusal) is h = absurd h

-- how far it has read
pub read_so : (words : List (List ℕ)) (before after : Seen) (refusal : Refusal) (status : Status) → status ≡ status_for refusal
    → ((m : Names) → Told words before after m → IsReadAhead (task_of words) m before.read_to after.read_to refusal) → HasReadAhead words before after status
read_so words before after refusal status is ahead r e m t = subst (IsReadAhead (task_of words) m before.read_to after.read_to) (status_tells status refusal r is e) (ahead m t)

-- why a command was refused
abbrev Cause : Handed → List (List ℕ) → Seen → Seen → Names → Refusal → Type 0
Cause handed words before after m refusal = Because (answer handed words m) (AtTask handed (FilesRose before after) (OutRose before after) m (task_of words)) refusal ⊎ IsSeenBy handed (task_of words) m refusal

-- only a fault of the data is seen in turns
seen-data : (handed : Handed) (stop : Stop) (m : Names) (plan : Result (List StageSpec) Refusal) (r : Refusal) → IsSeen stop handed m plan r → (i : ℕ) × (f : Fault) × (r ≡ of.Data i f)
seen-data handed Last m plan r h = absurd h
seen-data handed First m plan (of.Data i f) h = (i, f, refl)
seen-data handed First m plan of.Memory h = absurd h
seen-data handed First m plan (of.Usage k) h = absurd h
seen-data handed First m plan (of.Pipeline f) h = absurd h
seen-data handed First m plan (of.Device p o) h = absurd h

seen-of : (handed : Handed) (task : Result Task Refusal) (m : Names) (r : Refusal) → IsSeenBy handed task m r → (i : ℕ) × (f : Fault) × (r ≡ of.Data i f)
seen-of handed (Ok (Run_file file engine)) m r h = seen-data handed (stop_in engine) m (runnable_of handed m file) r h
seen-of handed (Ok (Trial count engine)) m r h = seen-data handed (stop_in engine) (with_trial m count) (runnable_in handed trial_text) r h
seen-of handed (Ok (Plan_file file)) m r h = absurd h
seen-of handed (Ok (Make_file count name)) m r h = absurd h
seen-of handed (Ok (Print text)) m r h = absurd h
seen-of handed (Err refusal) m r h = absurd h

pipeline-cause : (handed : Handed) (words : List (List ℕ)) (before after : Seen) (m : Names) (f : PipeFault) → Cause handed words before after m (of.Pipeline f) → answer handed words m ≡ Err (of.Pipeline f)
pipeline-cause handed words before after m f (inl h) = h
pipeline-cause handed words before after m f (inr h) = absurd (let seen = seen-of handed (task_of words) m (of.Pipeline f) h in let e = seen.2 in cc)

device-cause : (handed : Handed) (words : List (List ℕ)) (before after : Seen) (m : Names) (p : Place) (o : Op) → Cause handed words before after m (of.Device p o)
    → (answer handed words m ≡ Err (of.Device p o)) ⊎ AtTask handed (FilesRose before after) (OutRose before after) m (task_of words) p o
device-cause handed words before after m p o (inl h) = h
device-cause handed words before after m p o (inr h) = absurd (let seen = seen-of handed (task_of words) m (of.Device p o) h in let e = seen.2 in cc)

module _ (handed : Handed) (words : List (List ℕ)) (before after : Seen) (lent : after.lent ≡ before.lent) (later : before.faults ≤ after.faults) (opened : IsReadBy (task_of words) before.read_to after.read_to) where
  -- the command was done
  pub done_answered : WasDone handed (task_of words) before.map after.map before.out after.out → ((text : List ℕ) → task_of words ≡ Ok (Print text) → Appends before.out text after.out)
      → ((r : Refusal) → task_of words ≡ Err r → ⊥) → after.err ≡ before.err → HasAnswered handed words before after ends.Ok
  done_answered done page right silent = record {
    kept = λ _ m t. done_put (answer handed words m) before.map after.map before.out after.out (done m t);
    report = λ _ m t. done_report (answer handed words m) before.map after.map before.out after.out (done m t);
    page = λ _. page;
    page_part = λ other. absurd (other refl);
    pipeline = λ f e. absurd (cc);
    «data» = λ i f e. absurd (cc);
    usage = λ k e. absurd (cc);
    words_first = λ r e. absurd (right r e);
    device = λ p o e. absurd (cc);
    risen = λ p o e. absurd (cc);
    out_risen = λ o e. absurd (cc);
    least = λ r e. absurd (never-ok r e);
    complete = λ m t _ _. inl (ends-ok handed words m (IsDone before.map after.map before.out after.out) (done m t));
    refused = λ r e. absurd (never-ok r e);
    quiet = λ other. absurd (other refl);
    silent = λ _. silent;
    told_why = λ r e. absurd (never-ok r e);
    lent = lent;
    later = later;
    opened = opened;
    ahead = λ alone r e. absurd (never-ok r e);
  }

  -- it was refused
  pub refused_answered : (refusal : Refusal) (status : Status) → status ≡ status_for refusal
      → WasRefused handed (task_of words) (FilesRose before after) (OutRose before after) before.map after.map before.out after.out refusal
      → ((text : List ℕ) → task_of words ≡ Ok (Print text) → (refusal ≡ of.Device at.Out op.Write) × AppendsPart before.out text after.out) → ((r : Refusal) → task_of words ≡ Err r → refusal ≡ r)
      → ((k : ℕ) → refusal ≡ of.Usage k → task_of words ≡ Err (of.Usage k)) → ToldWhy before.err after.err before.err_faults after.err_faults (fault_line refusal)
      → ((m : Names) → Told words before after m → IsLeastNamed handed (task_of words) m before.counts after.counts refusal)
      → (goes_alone words ≡ true → (m : Names) → Told words before after m → IsReadAhead (task_of words) m before.read_to after.read_to refusal)
      → HasAnswered handed words before after status
  refused_answered refusal status is was part words_first of_words told least ahead = record {
    kept = λ e. absurd (not_ok e);
    report = λ e. absurd (not_ok e);
    page = λ e. absurd (not_ok e);
    page_part = λ _ text e. (let p = part text e in (is ∙ ap status_for p.0, p.1));
    pipeline = λ f e m t. pipeline-cause handed words before after m f (cause (of.Pipeline f) e m t);
    «data» = λ i f e m t. cause (of.Data i f) e m t;
    usage = λ k e. of_words k (same (of.Usage k) e);
    words_first = λ r e. is ∙ ap status_for (words_first r e);
    device = λ p o e m t. device-cause handed words before after m p o (cause (of.Device p o) e m t);
    risen = λ p o e. subst (Risen (FilesRose before after) (OutRose before after) before.map) (same (of.Device p o) e) was.risen;
    out_risen = λ o e. was.out_risen o (same (of.Device at.Out o) e);
    least = λ r e m t. subst (IsLeastNamed handed (task_of words) m before.counts after.counts) (same r e) (least m t);
    complete = λ m t no_files no_output. answer_or_memory handed (FilesRose before after) (OutRose before after) m (task_of words) refusal status is no_files no_output (was.because m t);
    refused = λ r e m t. subst (λ x. IsLeftBy handed (task_of words) x before.map after.map m) (same r e) (was.left m t);
    quiet = λ _. elim was.quiet [ inl e ↦ inl e | inr p ↦ inr (is ∙ ap status_for p.0, p.1) ];
    silent = λ e. absurd (not_ok e);
    told_why = λ r e. subst (λ x. ToldWhy before.err after.err before.err_faults after.err_faults (fault_line x)) (same r e) told;
    lent = lent;
    later = later;
    opened = opened;
    ahead = λ alone. read_so words before after refusal status is (ahead alone);
  }
    where
      not_ok : status ≡ ends.Ok → ⊥
      not_ok e = never-ok refusal (sym e ∙ is)

      same : (r : Refusal) → status ≡ status_for r → refusal ≡ r
      same r e = status_tells status refusal r is e

      cause : (r : Refusal) → status ≡ status_for r → (m : Names) → Told words before after m → Cause handed words before after m r
      cause r e m t = subst (Cause handed words before after m) (same r e) (was.because m t)
