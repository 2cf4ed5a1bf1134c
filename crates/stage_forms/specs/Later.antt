-- The works of a tree's stages later.
use Rattle.std.specs.Prelude.{◌≡◌, ℕ, ℤ, ◌≤◌, List, length, slice_get, Option, Some, None}
use Rattle.cloud_points.specs.Flows.{Flow, points}
use Rattle.cloud_points.specs.declared.point.Point.{Point}
use Rattle.stage_kinds.specs.declared.stage_work.StageWork.{StageWork}
use Rattle.stage_kinds.specs.declared.file_form.StageForm.TheVariants.{Writes}
use Rattle.stage_kinds.specs.declared.file_form.Writing.{Writing}
use Rattle.plug_stages.specs.declared.filter.PlugFilter as plug_type
use Rattle.plug_stages.specs.declared.tally.PlugTally as tally_type
use Rattle.stage_kinds.specs.Held.{HoldsSame, op_of}
use Rattle.stage_options.specs.declared.stage.StageSpec.{StageSpec}
use Rattle.run_report.specs.declared.report.StageCount.{StageCount}
use Rattle.answer_model.specs.Rows.{Row}
use Rattle.answer_model.specs.Values.{said_with, shown_with, Opened, options_at, row_at, setting_at, stage_input, stage_value, least_fault, counts_of}
use Rattle.stage_kinds.specs.Stages.{HoldsAll, keeps_of, says_of, shown_by, state_of}
use Rattle.stage_kinds.specs.declared.stage_work.StageState.{StageState}
use Rattle.stage_kinds.specs.declared.stage_work.StageState.TheVariants.{Plugging, Tallying}
use Rattle.stage_forms.specs.Starts.{form_for, kept_for}

-- the same works later: each holds the device that it held, whose count of faults didn't fall, and what it held of the caller's
pub record AreLater {S K P Q : Type 0} (fs : plug_type.Ghosts P) (ts : tally_type.Ghosts Q) (faults : StageWork S K P Q → ℕ) (old new : List (StageWork S K P Q)) : Type 0 where
  pub count : length new ≡ length old
  pub op : (i : ℕ) (v w : StageWork S K P Q) → slice_get old i ≡ Some v → slice_get new i ≡ Some w → op_of w ≡ op_of v
  pub later : (i : ℕ) (v w : StageWork S K P Q) → slice_get old i ≡ Some v → slice_get new i ≡ Some w → faults v ≤ faults w
  pub same : (i : ℕ) (v w : StageWork S K P Q) → slice_get old i ≡ Some v → slice_get new i ≡ Some w → HoldsSame fs ts v w

-- what the filter or the tally of the caller remembers that a work shows its points to
abbrev pub remembered_in : StageState → Option (List ℤ)
remembered_in (Plugging spot) = Some spot.remembered
remembered_in (Tallying spot) = Some spot.remembered
remembered_in _ = None

-- that is what its stage leaves behind the flow that it took
abbrev pub Remembers : {S K P Q : Type 0} → plug_type.Ghosts P → tally_type.Ghosts Q → Row → Flow Point → StageWork S K P Q → Type 0
Remembers fs ts row taken w = (s : List ℤ) → row.leaves taken ≡ Some s → remembered_in (state_of fs ts w) ≡ Some s

-- a stage showed its tally so many of the points that it took, and this is what that says; one without a tally showed none, and says nothing.
-- And a filter or a tally that it showed them to remembers what the stage leaves
pub record Says {S K P Q : Type 0} (fs : plug_type.Ghosts P) (ts : tally_type.Ghosts Q) (row : Row) (taken : Flow Point) (w : StageWork S K P Q) : Type 0 where
  pub shown : shown_by w ≡ shown_with row taken
  pub says : says_of ts w ≡ said_with row taken
  pub leaves : Remembers fs ts row taken w

-- a stage shows its points to nothing of the caller's
pub record IsSilent (row : Row) : Type 0 where
  pub says : row.says ≡ None
  pub leaves : (flow : Flow Point) → row.leaves flow ≡ None

-- the stages came to their end over these files: none has a fault, they gave on so much, and writers hold what they took, or keep the
-- views that they write; and what the caller handed in remembers what they leave
pub record CameToEnd {S K P Q : Type 0} (bytes : K → Option (List ℕ)) (fs : plug_type.Ghosts P) (ts : tally_type.Ghosts Q) (stages : List StageSpec) (opened : Opened) (works : List (StageWork S K P Q)) (counts : List StageCount) : Type 0 where
  pub sound : least_fault stages opened ≡ None
  pub counted : counts ≡ counts_of stages opened
  pub held : (i : ℕ) (w : StageWork S K P Q) → slice_get works i ≡ Some w → (x : Writing) → form_for (options_at stages i) (setting_at stages opened i) ≡ Writes x
      → HoldsAll bytes x (points (stage_input stages opened i)) w
  pub keeps : (i : ℕ) (w : StageWork S K P Q) → slice_get works i ≡ Some w
      → keeps_of w ≡ kept_for (form_for (options_at stages i) (setting_at stages opened i)) (stage_value stages opened i)
  pub leaves : (i : ℕ) (w : StageWork S K P Q) → slice_get works i ≡ Some w → Remembers fs ts (row_at stages opened i) (stage_input stages opened i) w
