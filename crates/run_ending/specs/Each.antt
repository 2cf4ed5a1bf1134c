-- The files of views.
use Rattle.std.specs.Prelude.{◌≡◌, ◌⊎◌, ℕ, ◌+◌, ◌<◌, true, List, [], ◌∷◌, ◌++◌, flat_map, is_some, slice_get, take, Option, Some, None}
use Rattle.cloud_points.specs.declared.point.Point.{Point}
use Rattle.cloud_points.specs.Flows.{Flow}
use Rattle.file_devices.specs.Named.{Names}
use Rattle.file_devices.specs.declared.devices.DeviceErr.{DeviceErr}
use Rattle.file_devices.specs.declared.devices.DeviceErr.TheVariants as device
use Rattle.file_devices.specs.declared.devices.Op.{Op}
use Rattle.file_devices.specs.declared.devices.Op.TheVariants.{Create, Keep}
use Rattle.stage_options.specs.Roles.{Role, WritesEach}
use Rattle.stage_options.specs.Values.{numbered}
use Rattle.stage_options.specs.declared.stage.StageSpec.{StageSpec}
use Rattle.stage_kinds.specs.declared.file_form.FileForm.{FileForm}
use Rattle.stage_kinds.specs.declared.file_form.Writing.{Writing}
use Rattle.stage_kinds.specs.declared.stage_work.StageWork.{StageWork}
use Rattle.stage_kinds.specs.declared.view_files.ViewFiles.{ViewFiles}
use Rattle.stage_kinds.specs.declared.view_writing.ViewErr.{ViewErr}
use Rattle.stage_kinds.specs.declared.view_writing.ViewErr.TheVariants as view
use Rattle.stage_kinds.specs.Files.{chosen, file_bytes}
use Rattle.stage_kinds.specs.Stages.{keeps_of}
use Rattle.stage_kinds.specs.Views.{IsWritingOp}
use Rattle.run_report.specs.declared.refusal.Place.TheVariants.{Stage}
use Rattle.run_report.specs.declared.refusal.Refusal.{Refusal}
use Rattle.run_report.specs.declared.refusal.Refusal.TheVariants.{Memory, Device}
use Rattle.answer_model.specs.Values.{Output, role_at}
use Rattle.run_outcome.specs.Cause.{WerePut}
use Rattle.run_ending.specs.declared.views.EachStage.{EachStage}

-- why the file of a view of stage i isn't written
abbrev pub unwritten : ℕ → ViewErr → Refusal
unwritten i (view.Failed o) = Device (Stage i) o
unwritten i view.Memory = Memory

-- why it isn't created or kept, as the device says it
abbrev pub undone : ℕ → Op → DeviceErr → Refusal
undone i o device.Memory = Memory
undone i o e = Device (Stage i) o

-- ---- files

-- that of a view of stage i, by the name with its number
abbrev pub file_of : ℕ → List ℕ → Writing → ℕ → List Point → Output
file_of i name x n v = record { stage = i; view = Some n; name = numbered name n; bytes = file_bytes x.form (chosen x.only v) }

-- those of views whose numbers begin with n
abbrev pub files_from : ℕ → List ℕ → Writing → ℕ → List (List Point) → List Output
files_from i name x n [] = []
files_from i name x n (v ∷ vs) = file_of i name x n v ∷ files_from i name x (n + 1) vs

-- those of stage i, which does this
abbrev pub each_files : ℕ → Role → Writing → Flow Point → List Output
each_files i (WritesEach name) x flow = files_from i name x 1 flow.views
each_files i role x flow = []

-- ---- what is kept for them

-- by the number of its stage
abbrev pub Kept : Type 0
Kept = ℕ × (Writing × Flow Point)

abbrev pub kept_at : ℕ → Option (Writing × Flow Point) → List Kept
kept_at i None = []
kept_at i (Some k) = (i, k) ∷ []

-- by the works from number i on
abbrev pub kept_from : {S K P Q : Type 0} → ℕ → List (StageWork S K P Q) → List Kept
kept_from i [] = []
kept_from i (w ∷ ws) = kept_at i (keeps_of w) ++ kept_from (i + 1) ws

-- the files of one, and of all
abbrev pub kept_files : List StageSpec → Kept → List Output
kept_files stages k = each_files k.0 (role_at stages k.0) k.1.0 k.1.1

abbrev pub all_files : List StageSpec → List Kept → List Output
all_files stages kept = flat_map (kept_files stages) kept

-- what was taken of a work, and of a stage
abbrev pub shown_files : ViewFiles → Writing × Flow Point
shown_files t = (t.writing, t.views.views)

abbrev pub shown_each : EachStage → Kept
shown_each e = (e.stage, shown_files e.files)

-- their stages are among so many
abbrev pub AreInside : ℕ → List EachStage → Type 0
AreInside n each = (i : ℕ) (e : EachStage) → slice_get each i ≡ Some e → e.stage < n

-- ---- where it stops

-- the file of a view is created, written, made whole and kept by this
abbrev pub IsEachOp : FileForm → Op → Type 0
IsEachOp form o = (o ≡ Create) ⊎ (IsWritingOp form o ⊎ (o ≡ Keep))

-- the first so many of these files were put, and the next one wasn't: memory was wanting, or the device of stage i failed; where it
-- couldn't be kept it may be there
pub record Stops (rose : Type 0) (old new : Option Names) (i : ℕ) (form : FileForm) (files : List Output) (refusal : Refusal) : Type 0 where
  pub done : ℕ
  pub next : Output
  pub at : slice_get files done ≡ Some next
  pub of : next.stage ≡ i
  pub view : is_some next.view ≡ true
  pub why : (refusal ≡ Memory) ⊎ ((o : Op) × (refusal ≡ Device (Stage i) o) × IsEachOp form o × rose)
  pub left : WerePut old (take done files) new
      ⊎ (((refusal ≡ Memory) ⊎ (refusal ≡ Device (Stage i) Keep)) × WerePut old (take (done + 1) files) new)

-- it stopped at a file of one of the stages for which something was kept
pub record BrokeOffAt (rose : Type 0) (old new : Option Names) (stages : List StageSpec) (kept : List Kept) (refusal : Refusal) : Type 0 where
  pub place : ℕ
  pub stage : ℕ
  pub writing : Writing
  pub flow : Flow Point
  pub of : slice_get kept place ≡ Some (stage, (writing, flow))
  pub stops : Stops rose old new stage writing.form (all_files stages kept) refusal
