-- Works before their first point, by what their stages do and by their rows.
use Rattle.std.specs.Prelude.{◌≡◌, ℕ, true, false, List, [], filter, Option, Some, None, option_map}
use Rattle.answer_model.specs.Rows.{Row, Judging, value_on, fault_on}
use Rattle.cloud_points.specs.Flows.{Flow}
use Rattle.cloud_points.specs.declared.point.Point.{Point}
use Rattle.las_reader.specs.Files.{Las, las_with}
use Rattle.las_reader.specs.declared.reader.LasReader.{LasReader}
use Rattle.las_reader.specs.declared.reader.Progress.TheVariants.{Records}
use Rattle.cloud_points.specs.Marks.{flow_marks}
use Rattle.cloud_points.specs.declared.faults.StageFault.TheVariants as stage
use Rattle.network_theory.specs.Machine.{made_of, state_after}
use Rattle.network_theory.specs.Machine as machine
use Rattle.plug_stages.specs.declared.filter.PlugFilter as plug_type
use Rattle.plug_stages.specs.declared.tally.PlugTally as tally_type
use Rattle.stage_forms.specs.Later.{IsSilent, Says}
use Rattle.stage_kinds.specs.Held.{HoldsSame}
use Rattle.stage_kinds.specs.Stages.{meaning_of, state_of}
use Rattle.stage_kinds.specs.declared.making.Making.{Making}
use Rattle.stage_kinds.specs.declared.making.Making.TheVariants as making
use Rattle.stage_kinds.specs.Files.{chosen}
use Rattle.stage_kinds.specs.Makings.{made_by, fault_by}
use Rattle.stage_kinds.specs.Stages.{holds_chosen, only_of, writes_of, writing_filter}
use Rattle.stage_kinds.specs.declared.stage_work.StageWork.{StageWork}
use Rattle.stage_kinds.specs.declared.stage_work.StageWork.TheVariants.{Reader, Filter, Plug, Tally, Collector, Views, ViewFiles, Writer}
use Rattle.stage_kinds.specs.declared.writer_stage.WriterStage.{WriterStage}
use Rattle.stage_options.specs.Roles.{Role, Reads, Filters, Gathers, Writes, WritesEach, is_reading}
use Rattle.stream_filters.specs.Kinds.{filtering_of}
use Rattle.stream_filters.specs.declared.filter.Filter.{Filter as StageFilter}
use Rattle.view_works.specs.declared.collector.Collector.{Collector as Collecting}

-- a reader, of a stage that reads a file, and shows its points to nothing of the caller's
pub record IsReading {S : Type 0} (role : Role) (row : Row) (r : LasReader S) : Type 0 where
  pub name : List ℕ
  pub does : role ≡ Reads name
  pub start : r.progress ≡ Records 0
  pub silent : IsSilent row

-- a filter by the rule of its row, which shows them to nothing of the caller's
pub record IsFiltering (role : Role) (row : Row) (f : StageFilter) : Type 0 where
  pub does : role ≡ Filters
  pub judges : row.making ≡ Judging (filtering_of f)
  pub silent : IsSilent row

-- by its role it makes other views of whole ones, or writes a file of each, with the points that its row chooses
abbrev pub IsMaking : Role → Row → Making → Type 0
IsMaking role row (making.Gathers g) = role ≡ Gathers
IsMaking role row (making.WritesEach x) = (name : List ℕ) × (role ≡ WritesEach name) × ((ps : List Point) → chosen x.only ps ≡ filter (row.writes) ps)

-- a stage that needs whole views, and makes of them what its row says; it shows them to nothing of the caller's
pub record IsGathering (role : Role) (row : Row) (c : Collecting Making) : Type 0 where
  pub inner : is_reading role ≡ false
  pub makes : (flow : Flow Point) → made_by c.making flow ≡ value_on row flow
  pub fault : (flow : Flow Point) → fault_by c.making flow ≡ fault_on row flow
  pub writes : IsMaking role row c.making
  pub silent : IsSilent row

-- a writer that chooses its points as its row says, and holds none; it shows them to nothing of the caller's
pub record IsWriting {K : Type 0} (bytes : K → Option (List ℕ)) (role : Role) (row : Row) (w : WriterStage K) : Type 0 where
  pub name : List ℕ
  pub does : role ≡ Writes name
  pub judges : row.making ≡ Judging (writing_filter (writes_of w))
  pub chooses : (ps : List Point) → chosen (only_of w) ps ≡ filter (row.writes) ps
  pub holds : holds_chosen bytes w [] ≡ true
  pub silent : IsSilent row

-- the stage of a filter or a tally of the caller: it makes of a flow what its row says, has its fault, and behind it a tally says what it is
-- to say, and what is shown the points remembers what it is to
pub record IsShowing {S K P Q : Type 0} (fs : plug_type.Ghosts P) (ts : tally_type.Ghosts Q) (role : Role) (row : Row) (w : StageWork S K P Q) : Type 0 where
  pub does : role ≡ Filters
  pub makes : (flow : Flow Point) → made_of (meaning_of fs ts w) (state_of fs ts w) flow ≡ flow_marks (value_on row flow)
  pub fault : (flow : Flow Point) → machine.fault_on (meaning_of fs ts w) (state_of fs ts w) flow ≡ option_map stage.Point (fault_on row flow)
  pub says : (flow : Flow Point) (new : StageWork S K P Q) → state_of fs ts new ≡ state_after (meaning_of fs ts w) (state_of fs ts w) flow → HoldsSame fs ts w new
      → fault_on row flow ≡ None → Says fs ts row flow new

-- the work of a stage that does this with files and has this row; `bytes` is what a sink tells
abbrev pub IsFor : {S K P Q : Type 0} → (K → Option (List ℕ)) → plug_type.Ghosts P → tally_type.Ghosts Q → Role → Row → StageWork S K P Q → Type 0
IsFor bytes fs ts role row (Reader r) = IsReading role row r
IsFor bytes fs ts role row (Filter f) = IsFiltering role row f
IsFor {S} {K} {P} {Q} bytes fs ts role row (Plug w) = IsShowing {S = S} {K = K} {P = P} {Q = Q} fs ts role row (Plug w)
IsFor {S} {K} {P} {Q} bytes fs ts role row (Tally w) = IsShowing {S = S} {K = K} {P = P} {Q = Q} fs ts role row (Tally w)
IsFor bytes fs ts role row (Collector c) = IsGathering role row c
IsFor bytes fs ts role row (Views h) = ⊥
IsFor bytes fs ts role row (ViewFiles t) = ⊥
IsFor bytes fs ts role row (Writer w) = IsWriting bytes role row w

-- a reader's source tells a file that holds these points
pub record TellsLas {S : Type 0} (bytes : S → Option (List ℕ)) (las : Las) (r : LasReader S) : Type 0 where
  pub file : List ℕ
  pub told : bytes r.source ≡ Some file
  pub holds : las ≡ las_with r.header r.fields file

-- where the work is a reader, this is its file
abbrev pub HasFile : {S K P Q : Type 0} → (S → Option (List ℕ)) → Las → StageWork S K P Q → Type 0
HasFile {S} bytes las w = (r : LasReader S) → w ≡ Reader r → TellsLas bytes las r
