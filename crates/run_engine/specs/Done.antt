-- Stages that came to their end, and whose writers finished their files.
use Rattle.std.specs.Prelude.{◌≡◌, ℕ, true, List, slice_get, Option, Some, None}
use Rattle.file_devices.specs.Told.{IsAsTold}
use Rattle.stage_kinds.specs.declared.stage_work.StageWork.{StageWork}
use Rattle.stage_kinds.specs.Held.{told_by}
use Rattle.stage_options.specs.Roles.{is_writing}
use Rattle.stage_options.specs.declared.stage.StageSpec.{StageSpec}
use Rattle.run_report.specs.declared.report.StageCount.{StageCount}
use Rattle.stage_kinds.specs.Stages.{keeps_of}
use Rattle.stage_forms.specs.Starts.{form_for, kept_for}
use Rattle.answer_model.specs.Values.{Opened, options_at, role_at, row_at, setting_at, stage_value, written_at, least_fault, counts_of}

-- none has a fault, they gave on so much, and the writers are finished: their sinks tell the bytes of their files, or they keep the views
-- of which files are to be written
pub record AreDone {S K P Q : Type 0} (bytes : K → Option (List ℕ)) (stages : List StageSpec) (opened : Opened) (works : List (StageWork S K P Q)) (counts : List StageCount) : Type 0 where
  pub sound : least_fault stages opened ≡ None
  pub counted : counts ≡ counts_of stages opened
  pub told : (i : ℕ) (w : StageWork S K P Q) → slice_get works i ≡ Some w → is_writing (role_at stages i) ≡ true
      → IsAsTold (told_by bytes w) (Some ((row_at stages opened i).bytes (written_at stages opened i)))
  pub keeps : (i : ℕ) (w : StageWork S K P Q) → slice_get works i ≡ Some w
      → keeps_of w ≡ kept_for (form_for (options_at stages i) (setting_at stages opened i)) (stage_value stages opened i)
