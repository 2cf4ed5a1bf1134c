-- Why a step was refused, and what it leaves.
use Rattle.std.specs.Prelude.{◌≡◌, ◌⊎◌, ℕ, ◌+◌, ◌<◌, ◌≤◌, Bool, true, false, List, length, take, slice_get, is_some, Option, Some, Result, Err, IsOk, IsOkAnd, ⊤}
use Rattle.file_devices.specs.Told.{IsAsTold}
use Rattle.file_devices.specs.Named.{Names}
use Rattle.file_devices.specs.Content.{Appends, AppendsPart}
use Rattle.file_devices.specs.declared.devices.Op.{Op}
use Rattle.file_devices.specs.declared.devices.Op.TheVariants as op
use Rattle.plug_stages.specs.Handed.{Handed}
use Rattle.stage_options.specs.Roles.{Role, Reads, Writes, WritesEach}
use Rattle.stage_options.specs.declared.stage.StageSpec.{StageSpec}
use Rattle.stage_options.specs.declared.options.Options.{Options}
use Rattle.stage_options.specs.declared.options.Options.TheVariants.{WritersLas}
use Rattle.run_report.specs.Reports.{report_of}
use Rattle.run_report.specs.declared.report.StageCount.{StageCount}
use Rattle.run_report.specs.declared.refusal.Refusal.{Refusal}
use Rattle.run_report.specs.declared.refusal.Refusal.TheVariants as of
use Rattle.run_report.specs.declared.refusal.Place.{Place}
use Rattle.run_report.specs.declared.refusal.Place.TheVariants as at
use Rattle.answer_model.specs.Values.{Output, options_at, role_at}
use Rattle.answer_model.specs.Runs.{Run, AreRead, AreBound, put_all, run_of}

-- ---- causes

-- the refusal is the one that is expected, or want of memory, or a device that failed
abbrev pub Because : {X : Type 0} → Result X Refusal → (Place → Op → Type 0) → Refusal → Type 0
Because expected failed of.Memory = ⊤
Because expected failed (of.Device p o) = (expected ≡ Err (of.Device p o)) ⊎ failed p o
Because expected failed refusal = expected ≡ Err refusal

-- what the device of a stage may have failed in: a reader's once all earlier readers' files were read, a writer's once all were
-- and all names are bound, and the end of its file and its keeping only where the answer is right; so it is with all that becomes of the
-- files of views
abbrev pub AtRole : Type 0 → Type 0 → Type 0 → Role → Op → Type 0
AtRole earlier all right (Reads name) op.Open = earlier
AtRole earlier all right (Reads name) op.Read = earlier
AtRole earlier all right (Writes name) op.Create = all
AtRole earlier all right (Writes name) op.Write = all
AtRole earlier all right (Writes name) op.Patch = right
AtRole earlier all right (Writes name) op.Keep = right
AtRole earlier all right (WritesEach name) op.Create = right
AtRole earlier all right (WritesEach name) op.Write = right
AtRole earlier all right (WritesEach name) op.Patch = right
AtRole earlier all right (WritesEach name) op.Keep = right
AtRole earlier all right role o = ⊥

-- a stage with these options ends its file by a patch of its header
abbrev pub patches : Options → Bool
patches (WritersLas o) = true
patches _ = false

-- all files can be read, and all names of dimensions are bound
abbrev pub CanBegin : Handed → Names → List StageSpec → Type 0
CanBegin handed m stages = AreRead m stages (length stages) × AreBound handed m stages

-- the device of stage i may have failed in this, in a run over these files
pub record MayFail (handed : Handed) (m : Names) (stages : List StageSpec) (i : ℕ) (o : Op) : Type 0 where
  pub inside : i < length stages
  pub come : AtRole (AreRead m stages i) (CanBegin handed m stages) (IsOk (run_of handed m stages)) (role_at stages i) o
  pub patched : o ≡ op.Patch → patches (options_at stages i) ≡ true

-- why a run was refused: the answer is that refusal, memory was wanting, or a device of its stages failed, so that the count of
-- faults rose. Of files that aren't told only the last is known
abbrev pub IsCause : Type 0 → Handed → Option Names → List StageSpec → Refusal → Type 0
IsCause rose handed map stages of.Memory = ⊤
IsCause rose handed map stages (of.Data i f) = (m : Names) → map ≡ Some m → run_of handed m stages ≡ Err (of.Data i f)
IsCause rose handed map stages (of.Pipeline f) = (m : Names) → map ≡ Some m → run_of handed m stages ≡ Err (of.Pipeline f)
IsCause rose handed map stages (of.Device (at.Stage i) o) =
    ((m : Names) × (map ≡ Some m) × (run_of handed m stages ≡ Err (of.Device (at.Stage i) o)))
    ⊎ (rose × ((m : Names) → map ≡ Some m → MayFail handed m stages i o))
IsCause rose handed map stages _ = ⊥

-- it is neither for a file that wasn't kept nor for the program's output
abbrev pub IsEarly : Refusal → Type 0
IsEarly (of.Device at.Out o) = ⊥
IsEarly (of.Device (at.Stage i) op.Keep) = ⊥
IsEarly refusal = ⊤

-- ---- what is left

-- the files are as before, all that was lent is back, and the count didn't fall
pub record IsSettled (map_before map : Option Names) (lent_before lent faults_before faults : ℕ) : Type 0 where
  pub map_same : map ≡ map_before
  pub lent_same : lent ≡ lent_before
  pub later : faults_before ≤ faults

-- where the map is told, it has these outputs put under their names
abbrev pub WerePut : Option Names → List Output → Option Names → Type 0
WerePut old outputs new = (m : Names) → old ≡ Some m → IsAsTold new (Some (put_all m outputs))

-- a run whose stages gave on so much: its outputs were put, and its report counts it
pub record IsRun (old new : Option Names) (counts : List StageCount) (run : Run) : Type 0 where
  pub put : WerePut old run.outputs new
  pub report : run.report ≡ report_of counts

-- a run whose outputs were put and whose report was printed
pub record IsDone (old new : Option Names) (out_before out : Option (List ℕ)) (run : Run) : Type 0 where
  pub put : WerePut old run.outputs new
  pub report : Appends out_before run.report out

-- a run whose outputs were put and of whose report a part was printed
pub record IsPartDone (old new : Option Names) (out_before out : Option (List ℕ)) (run : Run) : Type 0 where
  pub put : WerePut old run.outputs new
  pub report : AppendsPart out_before run.report out

-- the first so many outputs were put
abbrev pub WerePutFirst : ℕ → Option Names → Option Names → Run → Type 0
WerePutFirst n old new run = WerePut old (take n run.outputs) new

-- behind the first so many outputs comes one of this stage
pub record ComesNext (stage n : ℕ) (run : Run) : Type 0 where
  pub next : Output
  pub at : slice_get run.outputs n ≡ Some next
  pub of : next.stage ≡ stage

-- the first outputs were put up to one of a stage, which couldn't be kept, so that it may be there
pub record WereKept (stage : ℕ) (old new : Option Names) (run : Run) : Type 0 where
  pub count : ℕ
  pub next : ComesNext stage count run
  pub put : WerePutFirst count old new run ⊎ WerePutFirst (count + 1) old new run

-- the first outputs were put up to the file of a view, which couldn't be created or written
pub record WereWritten (stage : ℕ) (old new : Option Names) (run : Run) : Type 0 where
  pub count : ℕ
  pub next : ComesNext stage count run
  pub view : is_some next.next.view ≡ true
  pub put : WerePutFirst count old new run

-- what a refusal leaves: all outputs where only the report couldn't be printed; where an output wasn't kept, those before it, and
-- perhaps that one; where the file of a view wasn't written, those before it; where memory was wanting, none or the first ones of a right
-- answer; else nothing
abbrev pub IsLeft : Refusal → Option Names → Option Names → Result Run Refusal → Type 0
IsLeft of.Memory old new expected = (new ≡ old) ⊎ IsOkAnd expected (λ run. (n : ℕ) × WerePutFirst n old new run)
IsLeft (of.Device at.Out o) old new expected = IsOkAnd expected (λ run. WerePut old run.outputs new)
IsLeft (of.Device (at.Stage i) op.Keep) old new expected = IsOkAnd expected (WereKept i old new)
IsLeft (of.Device (at.Stage i) o) old new expected = (new ≡ old) ⊎ IsOkAnd expected (WereWritten i old new)
IsLeft refusal old new expected = new ≡ old
