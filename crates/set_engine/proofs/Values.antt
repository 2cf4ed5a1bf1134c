-- What stages are evaluated to.
use Rattle.std.specs.Prelude.{◌≡◌, ℕ, List, length, slice_get, Option, Some, None}
use Rattle.answer_model.specs.Values.{Opened, role_at, row_at, stage_input, stage_value, least_fault, counts_of}
use Rattle.cloud_points.specs.Flows.{points}
use Rattle.file_devices.specs.declared.devices.Source as source
use Rattle.plug_stages.specs.declared.filter.PlugFilter as plug_type
use Rattle.plug_stages.specs.declared.tally.PlugTally as tally_type
use Rattle.run_report.specs.declared.report.StageCount.{StageCount}
use Rattle.stage_kinds.specs.Stages.{HoldsAll, keeps_of, writing_of}
use Rattle.stage_kinds.specs.declared.file_form.Writing.{Writing}
use Rattle.stage_kinds.specs.declared.stage_work.StageWork.{StageWork}
use Rattle.stage_options.specs.declared.stage.StageSpec.{StageSpec}
use Rattle.set_engine.specs.Fits.{IsFor}
use Rattle.set_engine.specs.Given.{IsAfter, kept_after}
use Rattle.stage_forms.specs.Later.{Remembers}
use Rattle.stage_forms.specs.Starts.{AreGiven}

-- the works of the stages, which had no point yet; over files that the readers tell
abbrev pub FitRows : {S K P Q : Type 0} → source.Ghosts S → plug_type.Ghosts P → tally_type.Ghosts Q → (K → Option (List ℕ)) → List StageSpec → List (StageWork S K P Q) → Type 0
FitRows {S} {K} {P} {Q} s fs ts bytes stages works = (opened : Opened) → AreGiven s fs ts stages works opened
    → (i : ℕ) (w : StageWork S K P Q) → slice_get works i ≡ Some w → IsFor bytes fs ts (role_at stages i) (row_at stages opened i) w

-- the same works later, each at its place
pub record AreAfter {S K P Q : Type 0} (fs : plug_type.Ghosts P) (ts : tally_type.Ghosts Q) (faults : StageWork S K P Q → ℕ) (old new : List (StageWork S K P Q)) : Type 0 where
  pub count : length new ≡ length old
  pub each : (i : ℕ) (v w : StageWork S K P Q) → slice_get old i ≡ Some v → slice_get new i ≡ Some w → IsAfter fs ts faults v w

-- none has a fault, they gave on so much, and writers hold what they took, or keep what they are to write; what is shown points remembers what
-- it is to
pub record AreEvaluated {S K P Q : Type 0} (bytes : K → Option (List ℕ)) (fs : plug_type.Ghosts P) (ts : tally_type.Ghosts Q) (stages : List StageSpec) (opened : Opened) (start works : List (StageWork S K P Q)) (counts : List StageCount) : Type 0 where
  pub sound : least_fault stages opened ≡ None
  pub counted : counts ≡ counts_of stages opened
  pub held : (i : ℕ) (w : StageWork S K P Q) → slice_get works i ≡ Some w → (x : Writing) → writing_of w ≡ Some x → HoldsAll bytes x (points (stage_input stages opened i)) w
  pub keeps : (i : ℕ) (v w : StageWork S K P Q) → slice_get start i ≡ Some v → slice_get works i ≡ Some w → keeps_of w ≡ kept_after v (stage_value stages opened i)
  pub leaves : (i : ℕ) (w : StageWork S K P Q) → slice_get works i ≡ Some w → Remembers fs ts (row_at stages opened i) (stage_input stages opened i) w
