-- What a command leaves of what the caller handed in.
use Rattle.std.specs.Prelude.{◌≡◌, Bool, true, false, List, Option, Result, Ok}
use Rattle.answer_model.specs.Naming.{AreBack, AreRemembered}
use Rattle.answer_model.specs.Runs.{opened_in}
use Rattle.file_devices.specs.Named.{Names}
use Rattle.plug_stages.specs.Handed.{Handed, handed_by}
use Rattle.plug_stages.specs.declared.filter.PlugFilter as plug_type
use Rattle.plug_stages.specs.declared.places.Places.{Places}
use Rattle.plug_stages.specs.declared.tally.PlugTally as tally_type
use Rattle.run_report.specs.declared.refusal.Refusal.{Refusal}
use Rattle.stage_options.specs.declared.stage.StageSpec.{StageSpec}
use Rattle.lasline_top.specs.Answer.{run_by, with_trial}
use Rattle.lasline_top.specs.Left.{AreTold}
use Rattle.lasline_top.specs.Words.{Run_file, Task, Trial}

-- a task that runs stages
abbrev pub runs : Result Task Refusal → Bool
runs (Ok (Run_file file engine)) = true
runs (Ok (Trial count engine)) = true
runs task = false

-- each place holds what it held, but for what that remembers; and exactly that, where no stage that the task runs names it, and where
-- it runs none, whatever the files tell
pub record IsHandedBack {P Q : Type 0} (fs : plug_type.Ghosts P) (ts : tally_type.Ghosts Q) (task : Result Task Refusal) (map_before map : Option Names) (old new : Places P Q) : Type 0 where
  pub same : handed_by fs ts new ≡ handed_by fs ts old
  pub back : (m : Names) → AreTold task map_before map m → AreBack fs ts (run_by (handed_by fs ts old) task m) old new
  pub idle : runs task ≡ false → new ≡ old

-- over these names, what stages leave is what the filters and the tallies that they name remember
abbrev pub Remember : {P Q : Type 0} → plug_type.Ghosts P → tally_type.Ghosts Q → Handed → Names → List StageSpec → Places P Q → Type 0
Remember fs ts handed m stages new = AreRemembered fs ts stages (opened_in handed m stages) new

-- the names over which a task runs its stages: a trial has made its file before
abbrev pub names_for : Result Task Refusal → Names → Names
names_for (Ok (Trial count engine)) m = with_trial m count
names_for task m = m

-- so it is with those of the stages that the task runs
abbrev pub IsRemembered : {P Q : Type 0} → plug_type.Ghosts P → tally_type.Ghosts Q → Result Task Refusal → Option Names → Option Names → Places P Q → Places P Q → Type 0
IsRemembered fs ts task map_before map old new = (m : Names) → AreTold task map_before map m
    → Remember fs ts (handed_by fs ts old) (names_for task m) (run_by (handed_by fs ts old) task m) new
