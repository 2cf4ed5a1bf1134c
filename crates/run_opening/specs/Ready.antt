-- A tree's stages before their first turn.
use Rattle.std.specs.Prelude.{◌≡◌, ℕ, List, length, slice_get, Option, Some}
use Rattle.file_devices.specs.Named.{Names}
use Rattle.file_devices.specs.declared.devices.Source as source
use Rattle.file_devices.specs.declared.devices.Sink as sink
use Rattle.stage_kinds.specs.Held.{faults_of}
use Rattle.stage_kinds.specs.Leads.{AreInFront}
use Rattle.las_reader.specs.declared.reader.LasReader.{LasReader}
use Rattle.stage_kinds.specs.declared.stage_work.StageWork.{StageWork}
use Rattle.stage_kinds.specs.declared.stage_work.StageWork.TheVariants.{Reader}
use Rattle.stage_options.specs.declared.stage.StageSpec.{StageSpec}
use Rattle.answer_model.specs.Runs.{opened_in}
use Rattle.answer_model.specs.Values.{role_at}
use Rattle.run_opening.specs.Headers.{header_at}
use Rattle.stage_forms.specs.Starts.{AreAtStart, AreGiven, AreHandedIn, HaveDevices}
use Rattle.run_outcome.specs.Cause.{CanBegin}
use Rattle.plug_stages.specs.declared.filter.PlugFilter as plug_type
use Rattle.plug_stages.specs.declared.tally.PlugTally as tally_type
use Rattle.plug_stages.specs.Handed.{Handed}

module _ {S K P Q : Type 0} (s : source.Ghosts S) (k : sink.Ghosts K) (fs : plug_type.Ghosts P) (ts : tally_type.Ghosts Q) where
  -- the works of stages before their first turn, over these files and what was handed in: each is at its start and holds its device, which
  -- didn't fail, the sources of readers tell their files, of which no more than the front was read, and the run can begin
  pub record AreReady (given : Handed) (map : Option Names) (stages : List StageSpec) (works : List (StageWork S K P Q)) : Type 0 where
    pub count : length works ≡ length stages
    pub starts : AreAtStart k.bytes stages works
    pub devices : HaveDevices stages works
    pub handed : AreHandedIn fs ts stages works given
    pub tell : (m : Names) → map ≡ Some m → AreGiven s fs ts stages works (opened_in given m stages)
    pub front : AreInFront s.reached works
    pub headers : (m : Names) → map ≡ Some m → (i : ℕ) (r : LasReader S) → slice_get works i ≡ Some (Reader r) → header_at m (role_at stages i) ≡ Some r.header
    pub come : (m : Names) → map ≡ Some m → CanBegin given m stages
    pub calm : (i : ℕ) (w : StageWork S K P Q) → slice_get works i ≡ Some w → faults_of s.faults k.faults w ≡ 0
