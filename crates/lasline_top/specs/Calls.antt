-- What an answer of the top call says.
use Rattle.std.specs.Prelude.{◌≡◌, ◌≤◌, ◌⊎◌, ℕ, true, List, Option, Ok, Err, IsOkAnd}
use Rattle.file_devices.specs.Counts.{Rose}
use Rattle.file_devices.specs.Content.{Appends, AppendsPart}
use Rattle.file_devices.specs.Named.{Names}
use Rattle.file_devices.specs.declared.devices.Files as files
use Rattle.file_devices.specs.declared.devices.Sink as sink
use Rattle.file_devices.specs.declared.devices.Op.{Op}
use Rattle.file_devices.specs.declared.devices.Op.TheVariants as op
use Rattle.stage_names.specs.declared.faults.PipeFault.{PipeFault}
use Rattle.run_report.specs.declared.refusal.Fault.{Fault}
use Rattle.run_report.specs.declared.refusal.Place.{Place}
use Rattle.run_report.specs.declared.refusal.Place.TheVariants as at
use Rattle.run_report.specs.declared.refusal.Refusal.{Refusal}
use Rattle.run_report.specs.declared.refusal.Refusal.TheVariants as of
use Rattle.run_report.specs.Faults.{fault_line}
use Rattle.run_outcome.specs.Cause.{IsPartDone, WerePut}
use Rattle.lasline_top.specs.declared.status.Status.{Status}
use Rattle.lasline_top.specs.declared.status.Status.TheVariants as ends
use Rattle.lasline_top.specs.Words.{Print, task_of}
use Rattle.lasline_top.specs.Answer.{answer}
use Rattle.lasline_top.specs.Cause.{AtTask, HasFailed, ToldWhy}
use Rattle.lasline_top.specs.Codes.{code_of}
use Rattle.lasline_top.specs.Least.{IsLeastNamed}
use Rattle.lasline_top.specs.Left.{AreTold, IsLeftBy}
use Rattle.lasline_top.specs.Reading.{IsReadAhead, IsReadBy}
use Rattle.lasline_top.specs.Refusals.{status_for}
use Rattle.lasline_top.specs.Stopping.{MayCome, MayEnd}
use Rattle.lasline_top.specs.Threads.{goes_alone}
use Rattle.plug_stages.specs.Handed.{Handed}

-- what can be seen at one time: of the files what names have, how often they failed, how far they were read, how many objects are
-- handed out, and how often each of those failed that were given back; of the output and of the errors their bytes and how often they
-- failed
pub record Seen : Type 0 where
  pub map : Option Names
  pub faults : ℕ
  pub read_to : Option ℕ
  pub lent : ℕ
  pub counts : Option (List ℕ)
  pub out : Option (List ℕ)
  pub out_faults : ℕ
  pub err : Option (List ℕ)
  pub err_faults : ℕ

-- so it is with these files, output and errors
abbrev pub seen : {F I O K E : Type 0} → files.Ghosts F I O → sink.Ghosts K → sink.Ghosts E → F → K → E → Seen
seen f k e files out err = record {
  map = f.map files;
  faults = f.faults files;
  read_to = f.read_to files;
  lent = f.lent files;
  counts = f.counts files;
  out = k.bytes out;
  out_faults = k.faults out;
  err = e.bytes err;
  err_faults = e.faults err;
}

-- the count of the files' faults rose
abbrev pub FilesRose : Seen → Seen → Type 0
FilesRose before after = Rose before.faults after.faults

-- that of the output rose
abbrev pub OutRose : Seen → Seen → Type 0
OutRose before after = Rose before.out_faults after.out_faults

-- the files told this map, as long as the command of these words needs it
abbrev pub Told : List (List ℕ) → Seen → Seen → Names → Type 0
Told words before after m = AreTold (task_of words) before.map after.map m

-- a run whose turns end at the first fault, that of a point, has read its text and no more of the points than it may by then
abbrev pub HasReadAhead : List (List ℕ) → Seen → Seen → Status → Type 0
HasReadAhead words before after status = (refusal : Refusal) → status ≡ status_for refusal → (m : Names) → Told words before after m
    → IsReadAhead (task_of words) m before.read_to after.read_to refusal

-- a call with these words, over what was seen before, has answered this and left what is seen after it
pub record HasAnswered (handed : Handed) (words : List (List ℕ)) (before after : Seen) (status : Status) : Type 0 where
  -- an Ok run has kept exactly the files that are defined, and printed the report
  pub kept : status ≡ ends.Ok → (m : Names) → Told words before after m
      → IsOkAnd (answer handed words m) (λ run. WerePut before.map run.outputs after.map)
  pub report : status ≡ ends.Ok → (m : Names) → Told words before after m
      → IsOkAnd (answer handed words m) (λ run. Appends before.out run.report after.out)
  -- a page is printed whatever the files tell, or a part of it where the output failed, and is refused for nothing else
  pub page : status ≡ ends.Ok → (text : List ℕ) → task_of words ≡ Ok (Print text) → Appends before.out text after.out
  pub page_part : (status ≡ ends.Ok → ⊥) → (text : List ℕ) → task_of words ≡ Ok (Print text)
      → (status ≡ ends.Device at.Out op.Write) × AppendsPart before.out text after.out
  -- each other answer has its cause: the pipeline has that fault, the files hold it, or the words are no command. Where turns end at
  -- the first fault it may be that of any stage
  pub pipeline : (f : PipeFault) → status ≡ ends.Pipeline f → (m : Names) → Told words before after m
      → answer handed words m ≡ Err (of.Pipeline f)
  pub «data» : (i : ℕ) (f : Fault) → status ≡ ends.Data i f → (m : Names) → Told words before after m
      → MayCome handed (task_of words) m (Err (of.Data i f))
  pub usage : (k : ℕ) → status ≡ ends.Usage k → task_of words ≡ Err (of.Usage k)
  pub words_first : (refusal : Refusal) → task_of words ≡ Err refusal → status ≡ status_for refusal
  -- or a device failed, once the command had come that far: its count rose, or a file to read isn't there
  pub device : (p : Place) (o : Op) → status ≡ ends.Device p o → (m : Names) → Told words before after m
      → (answer handed words m ≡ Err (of.Device p o)) ⊎ AtTask handed (FilesRose before after) (OutRose before after) m (task_of words) p o
  pub risen : (p : Place) (o : Op) → status ≡ ends.Device p o
      → HasFailed (FilesRose before after) (OutRose before after) before.map p o
  pub out_risen : (o : Op) → status ≡ ends.Device at.Out o → (o ≡ op.Write) × OutRose before after
  -- of a pipeline's stages the first one whose own file failed is named, where the files tell the counts
  pub least : (refusal : Refusal) → status ≡ status_for refusal → (m : Names) → Told words before after m
      → IsLeastNamed handed (task_of words) m before.counts after.counts refusal
  -- where no device fails, the answer is one that is defined, or want of memory
  pub complete : (m : Names) → Told words before after m → (FilesRose before after → ⊥) → (OutRose before after → ⊥)
      → MayEnd handed (task_of words) m status ⊎ (status ≡ ends.Memory)
  -- after a refusal the files are as before, but for the first outputs where one couldn't be kept, for all where only the report
  -- couldn't be printed, and for the file that a trial made
  pub refused : (refusal : Refusal) → status ≡ status_for refusal → (m : Names) → Told words before after m
      → IsLeftBy handed (task_of words) refusal before.map after.map m
  -- and nothing was printed, or where only the output failed a part of what there was to print
  pub quiet : (status ≡ ends.Ok → ⊥) → (after.out ≡ before.out) ⊎ ((status ≡ ends.Device at.Out op.Write)
      × ((m : Names) → Told words before after m → IsOkAnd (answer handed words m) (IsPartDone before.map after.map before.out after.out)))
  -- the line that says why goes to the errors, and nothing goes there on Ok
  pub silent : status ≡ ends.Ok → after.err ≡ before.err
  pub told_why : (refusal : Refusal) → status ≡ status_for refusal
      → ToldWhy before.err after.err before.err_faults after.err_faults (fault_line refusal)
  -- every object that was handed out is given back, and no count falls
  pub lent : after.lent ≡ before.lent
  pub later : before.faults ≤ after.faults
  -- a plan reads no more than the pipeline's file may have, and one byte; a page reads nothing
  pub opened : IsReadBy (task_of words) before.read_to after.read_to
  -- how far is read is bounded where one thread takes all turns
  pub ahead : goes_alone words ≡ true → HasReadAhead words before after status

-- it has answered some status, and this is the code of that
abbrev pub HasExited : Handed → List (List ℕ) → Seen → Seen → ℕ → Type 0
HasExited handed words before after code = (status : Status) × (code ≡ code_of status) × HasAnswered handed words before after status
