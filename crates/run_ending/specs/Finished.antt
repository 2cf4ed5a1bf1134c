-- Writers that finish their files.
use Rattle.std.specs.Prelude.{◌≡◌, ◌<◌, ℕ, List, slice_get, option_map, Option, Some, None}
use Rattle.file_devices.specs.Counts.{Rose}
use Rattle.file_devices.specs.Told.{IsAsTold}
use Rattle.file_devices.specs.declared.devices.Op.{Op}
use Rattle.cloud_points.specs.declared.point.Point.{Point}
use Rattle.stage_kinds.specs.declared.stage_work.StageWork.{StageWork}
use Rattle.stage_kinds.specs.declared.file_form.Writing.{Writing}
use Rattle.stage_kinds.specs.Files.{chosen, file_bytes, finishing_op}
use Rattle.stage_kinds.specs.Held.{told_by}
use Rattle.run_report.specs.declared.refusal.Place.TheVariants as at
use Rattle.run_report.specs.declared.refusal.Refusal.{Refusal}
use Rattle.run_report.specs.declared.refusal.Refusal.TheVariants as of
use Rattle.stage_kinds.specs.Stages.{HoldsAll, keeps_of, writing_of}

-- a writer that held points tells the whole file of those that it chose, once it is finished
abbrev pub IsFinished : {S K P Q : Type 0} → (K → Option (List ℕ)) → StageWork S K P Q → StageWork S K P Q → Type 0
IsFinished bytes v w = (x : Writing) (ps : List Point) → HoldsAll bytes x ps v → IsAsTold (told_by bytes w) (Some (file_bytes x.form (chosen x.only ps)))

abbrev pub AreFinished : {S K P Q : Type 0} → (K → Option (List ℕ)) → List (StageWork S K P Q) → List (StageWork S K P Q) → Type 0
AreFinished {S} {K} {P} {Q} bytes old new = (i : ℕ) (v w : StageWork S K P Q) → slice_get old i ≡ Some v → slice_get new i ≡ Some w → IsFinished bytes v w

-- and what works keep of views, they still keep
abbrev pub AreKept : {S K P Q : Type 0} → List (StageWork S K P Q) → List (StageWork S K P Q) → Type 0
AreKept {S} {K} {P} {Q} old new = (i : ℕ) (v w : StageWork S K P Q) → slice_get old i ≡ Some v → slice_get new i ≡ Some w → keeps_of w ≡ keeps_of v

-- works that write no file are as they were
abbrev pub OthersStay : {S K P Q : Type 0} → List (StageWork S K P Q) → List (StageWork S K P Q) → Type 0
OthersStay {S} {K} {P} {Q} old new = (i : ℕ) (w : StageWork S K P Q) → slice_get old i ≡ Some w → writing_of w ≡ None → slice_get new i ≡ Some w

-- the device of a writer failed in this as its file was finished, and that of no earlier one did
pub record UnfinishedAt {S K P Q : Type 0} (faults : StageWork S K P Q → ℕ) (old new : List (StageWork S K P Q)) (i : ℕ) (o : Op) : Type 0 where
  pub before : StageWork S K P Q
  pub after : StageWork S K P Q
  pub was : slice_get old i ≡ Some before
  pub is : slice_get new i ≡ Some after
  pub named : option_map (λ (x : Writing). finishing_op x.form) (writing_of before) ≡ Some o
  pub rose : Rose (faults before) (faults after)
  pub others : (j : ℕ) (v w : StageWork S K P Q) → j < i → slice_get old j ≡ Some v → slice_get new j ≡ Some w → faults w ≡ faults v

-- a writer couldn't finish, since its device failed
abbrev pub IsUnfinished : {S K P Q : Type 0} → (StageWork S K P Q → ℕ) → List (StageWork S K P Q) → List (StageWork S K P Q) → Refusal → Type 0
IsUnfinished faults old new (of.Device (at.Stage i) o) = UnfinishedAt faults old new i o
IsUnfinished faults old new refusal = ⊥
