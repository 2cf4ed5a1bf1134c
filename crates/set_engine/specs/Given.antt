-- What a stage gave on, and what its work is then.
use Rattle.std.specs.Prelude.{◌≡◌, ℕ, ◌≤◌, cond, List, length, Option, Some, None, option_map}
use Rattle.answer_model.specs.Rows.{Row, fault_on}
use Rattle.answer_model.specs.Values.{value_of, wrote_with, files_with}
use Rattle.cloud_points.specs.Flows.{Flow, points}
use Rattle.cloud_points.specs.Queue.{up_to_limit}
use Rattle.cloud_points.specs.declared.point.Point.{Point}
use Rattle.cloud_points.specs.declared.faults.PointFault.{PointFault}
use Rattle.cloud_points.specs.declared.faults.StageFault.TheVariants as stage
use Rattle.las_reader.specs.Files.{Las}
use Rattle.las_reader.specs.Flows.{las_fault}
use Rattle.run_report.specs.declared.report.StageCount.{StageCount}
use Rattle.plug_stages.specs.declared.filter.PlugFilter as plug_type
use Rattle.plug_stages.specs.declared.tally.PlugTally as tally_type
use Rattle.run_report.specs.declared.tally.TallyLine.{TallyLine}
use Rattle.stage_forms.specs.Later.{Says}
use Rattle.stage_kinds.specs.Held.{HoldsSame, op_of}
use Rattle.stage_kinds.specs.Makings.{kept_by}
use Rattle.stage_kinds.specs.Stages.{HoldsAll, files_by, keeps_of, writing_of, written_by}
use Rattle.stage_kinds.specs.declared.file_form.Writing.{Writing}
use Rattle.stage_kinds.specs.declared.stage_work.StageWork.{StageWork}
use Rattle.stage_kinds.specs.declared.stage_work.StageWork.TheVariants.{Collector}
use Rattle.stage_options.specs.Kinds.{kind_of}
use Rattle.stage_options.specs.Roles.{Role, is_reading}
use Rattle.stage_options.specs.declared.stage.StageSpec.{StageSpec}
use Rattle.set_engine.specs.declared.output.StageOutput.{StageOutput}

-- the fault of a stage on the flow that it takes: of a reader that of its file
abbrev pub fault_of : Role → Row → Las → Flow Point → Option PointFault
fault_of role row las flow = cond (is_reading role) (las_fault las) (fault_on row flow)

-- it holds what it writes of the points that it took, or of the views that it gave, its tally says what it is to say, and what is shown the
-- points remembers what it is to
pub record HoldsTaken {S K P Q : Type 0} (bytes : K → Option (List ℕ)) (fs : plug_type.Ghosts P) (ts : tally_type.Ghosts Q) (role : Role) (row : Row) (taken given : Flow Point) (w : StageWork S K P Q) : Type 0 where
  pub wrote : written_by w ≡ wrote_with role row taken given
  pub held : (x : Writing) → writing_of w ≡ Some x → HoldsAll bytes x (points taken) w
  pub says : Says fs ts row taken w

-- it says its fault and gave its value, and holds what it writes where it has no fault
pub record IsGivenBy {S K P Q : Type 0} (bytes : K → Option (List ℕ)) (fs : plug_type.Ghosts P) (ts : tally_type.Ghosts Q) (role : Role) (row : Row) (las : Las) (taken : Flow Point) (w : StageWork S K P Q) (given : StageOutput) : Type 0 where
  pub fault : given.fault ≡ option_map stage.Point (fault_of role row las taken)
  pub value : given.views ≡ value_of role row las taken
  pub sound : given.fault ≡ None → HoldsTaken bytes fs ts role row taken given.views w
  pub files : files_by w ≡ files_with role given.views

-- what a work keeps once its stage has given this: a stage that needs whole views keeps those that it is to write
abbrev pub kept_after : {S K P Q : Type 0} → StageWork S K P Q → Flow Point → Option (Writing × Flow Point)
kept_after (Collector c) given = kept_by c.making given
kept_after w given = keeps_of w

-- the same work later: over its device, whose count of faults didn't fall, with the same to write, and with the same of the caller's
pub record IsAfter {S K P Q : Type 0} (fs : plug_type.Ghosts P) (ts : tally_type.Ghosts Q) (faults : StageWork S K P Q → ℕ) (old new : StageWork S K P Q) : Type 0 where
  pub op : op_of new ≡ op_of old
  pub later : faults old ≤ faults new
  pub writing : writing_of new ≡ writing_of old
  pub holds : HoldsSame fs ts old new

-- how much a stage gave on, how many points it wrote or showed, how many files it wrote, and what its tally says
abbrev pub count_for : ℕ → StageSpec → Flow Point → Option ℕ → ℕ → Option TallyLine → StageCount
count_for i s given wrote files tally = record {
  stage = i;
  kind = kind_of s.options;
  views = up_to_limit (length given.views);
  points = up_to_limit (length (points given));
  wrote = wrote;
  files = files;
  tally = tally;
}
