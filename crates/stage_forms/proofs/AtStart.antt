-- Works at their start, whatever the readers among them read.
use Rattle.std.proofs.Common.{◌≡◌, ℕ, List, slice_get, Option, Some, ap}
use Rattle.stage_forms.specs.Below.{read_of}
use Rattle.stage_kinds.specs.declared.stage_work.StageWork.{StageWork}
use Rattle.stage_kinds.specs.declared.stage_work.StageWork.TheVariants.{Reader}
use Rattle.plug_stages.specs.Handed.{none_handed}
use Rattle.stage_options.specs.declared.stage.StageSpec.{StageSpec}
use Rattle.answer_model.specs.Runs.{no_file}
use Rattle.answer_model.specs.Rows.{Setting}
use Rattle.answer_model.specs.Values.{LasFile, Opened, options_at, setting_at}
use Rattle.stage_forms.specs.Starts.{HaveRead, IsAtStart, AreAtStart}

module _ {S K P Q : Type 0} where
  abbrev file_of : Option (StageWork S K P Q) → LasFile
  file_of (Some (Reader r)) = record no_file { read = read_of r }
  file_of _ = no_file

  -- the files of the readers among works, where nothing is handed in
  abbrev read_by : List (StageWork S K P Q) → Opened
  read_by works = record { file = λ i. file_of (slice_get works i); handed = none_handed }

  have-read : (works : List (StageWork S K P Q)) → HaveRead works (read_by works)
  have-read works i r e = ap (λ o. (file_of o).read) e

  pub somehow : (bytes : K → Option (List ℕ)) (stages : List StageSpec) (works : List (StageWork S K P Q)) → AreAtStart bytes stages works
      → (i : ℕ) (w : StageWork S K P Q) → slice_get works i ≡ Some w → (setting : Setting) × IsAtStart bytes (options_at stages i) setting w
  somehow bytes stages works starts i w e = (setting_at stages (read_by works) i, starts (read_by works) (have-read works) i w e)
