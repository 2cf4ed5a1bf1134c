-- The works of a tree's stages at their start.
use Rattle.std.specs.Prelude.{◌≡◌, ℕ, ⊤, Bool, true, false, List, [], length, map, slice_get, Option, Some, None}
use Rattle.file_devices.specs.declared.devices.Source as source
use Rattle.cloud_points.specs.declared.dims.Dim.{Dim}
use Rattle.cloud_points.specs.Layouts.{holds}
use Rattle.cloud_points.specs.Flows.{Flow, all_of, points, empty_flow}
use Rattle.expr_lang.specs.Formula.{Formula}
use Rattle.view_works.specs.declared.collector.Collector.{Collector as Collecting}
use Rattle.las_reader.specs.declared.reader.LasReader.{LasReader}
use Rattle.las_reader.specs.declared.reader.Progress.TheVariants.{Records}
use Rattle.stage_kinds.specs.declared.file_form.FileForm.{FileForm}
use Rattle.stage_kinds.specs.declared.file_form.FileForm.TheVariants as file
use Rattle.stage_kinds.specs.declared.file_form.StageForm.{StageForm}
use Rattle.stage_kinds.specs.declared.file_form.StageForm.TheVariants.{Reads, Filters, Plugs, Tallies, Gathers, Writes}
use Rattle.stage_kinds.specs.declared.file_form.Writing.{Writing}
use Rattle.stage_kinds.specs.declared.making.Making.{Making}
use Rattle.stage_kinds.specs.declared.making.Making.TheVariants.{Gathers as Views, WritesEach as Each}
use Rattle.stage_kinds.specs.declared.stage_work.StageWork.{StageWork}
use Rattle.stage_kinds.specs.declared.stage_work.StageWork.TheVariants.{Reader, Filter, Plug, Tally, Collector, Writer}
use Rattle.stage_kinds.specs.Files.{IsFileForm, chosen}
use Rattle.stage_kinds.specs.Makings.{IsGoodMaking, kept_by}
use Rattle.stage_kinds.specs.Held.{op_of}
use Rattle.stage_kinds.specs.Stages.{holds_of, writes_at, writing_of}
use Rattle.plug_stages.specs.Handed.{Handed}
use Rattle.plug_stages.specs.Works.{plug_nature, tally_nature}
use Rattle.plug_stages.specs.declared.filter.PlugFilter as plug_type
use Rattle.plug_stages.specs.declared.plug_work.PlugWork.{PlugWork}
use Rattle.plug_stages.specs.declared.tally.PlugTally as tally_type
use Rattle.plug_stages.specs.declared.tally_work.TallyWork.{TallyWork}
use Rattle.stage_options.specs.Roles.{Role, plug_of, role_of, tally_of}
use Rattle.stage_options.specs.Roles as role
use Rattle.stage_options.specs.declared.options.Options.{Options}
use Rattle.stage_options.specs.declared.options.Options.TheVariants.{WritersLas, WritersText}
use Rattle.name_binding.specs.declared.binding.BoundFilter.{BoundFilter}
use Rattle.name_binding.specs.declared.binding.BoundFilter.TheVariants as bound
use Rattle.name_binding.specs.declared.binding.BoundStage.{BoundStage}
use Rattle.name_binding.specs.declared.binding.BoundStage.TheVariants as does
use Rattle.extra_bytes.specs.Asked.{asked_fields}
use Rattle.extra_bytes.specs.Fields.{moved}
use Rattle.cloud_points.specs.declared.extra.ExtraField.{ExtraField}
use Rattle.las_header.specs.Formats.{format_size}
use Rattle.forward_rules.specs.declared.form.LasForm.{LasForm}
use Rattle.name_binding.specs.Binding.{asked_in, bound_stage}
use Rattle.name_binding.specs.Ferries.{names_behind}
use Rattle.stage_meanings.specs.ByRule.{spot_at}
use Rattle.stream_filters.specs.declared.filter.Filter.{Filter as Filtering}
use Rattle.stream_filters.specs.declared.filter.Filter.TheVariants as filter
use Rattle.stage_options.specs.declared.stage.StageSpec.{StageSpec}
use Rattle.stage_forms.specs.Below.{Tells, read_of}
use Rattle.answer_model.specs.Forms.{las_form, text_form}
use Rattle.answer_model.specs.Naming.{found_in}
use Rattle.answer_model.specs.Rows.{Setting}
use Rattle.answer_model.specs.Values.{Opened, op_for, options_at, role_at, setting_at}
use Rattle.cloud_points.specs.declared.point.Point.{Point}
use Rattle.cloud_points.specs.Queue.{up_to_limit}

-- ---- what the work of a stage is made of, beside its device

-- a filter before all points, of those for which a condition holds
abbrev pub started : BoundFilter → Option (Formula Dim) → Filtering
started (bound.Range limits) only = filter.Range (record { rule = limits; only = only; spot = spot_at 0 })
started (bound.Crop shape outside) only = filter.Crop (record { rule = record { shape = shape; outside = outside }; only = only; spot = spot_at 0 })
started (bound.Assign list) only = filter.Assign (record { rule = list; only = only; spot = spot_at 0 })
started (bound.Expression condition) only = filter.Expression (record { rule = record { 0 = condition }; only = only; spot = spot_at 0 })
started (bound.Decimation step offset limit) only = filter.Decimation (record { rule = record { step = step; offset = offset; limit = limit }; only = only; spot = spot_at 0 })
started (bound.Head count) only = filter.Head (record { rule = record { count = count }; only = only; spot = spot_at 0 })
started (bound.Returns groups) only = filter.Returns (record { rule = groups; only = only; spot = spot_at 0 })
started bound.Merge only = filter.Merge

-- a form in whose records these fields stand, behind those of the format
abbrev pub with_fields : LasForm → List ExtraField → LasForm
with_fields form fields = record form { extra = map (moved (format_size form.format)) fields }

-- the fields that a writer's records hold behind those of the format, where the points that it takes have these dimensions
abbrev pub fields_for : (Dim → Bool) → List (List ℕ) → Options → List ExtraField
fields_for has names (WritersLas o) = asked_fields names 0 (asked_in has names o.extra)
fields_for has names _ = []

-- the form of a writer's file, by its options and where it stands
abbrev pub file_for : Options → Setting → Option FileForm
file_for (WritersLas o) setting = Some (file.Las (las_form setting.dims setting.names setting.reads o))
file_for (WritersText o) setting = Some (file.Text (text_form setting.names o))
file_for _ setting = None

-- a writer writes one file, or one of each view
abbrev pub writes_as : Role → Writing → StageForm
writes_as (role.WritesEach name) writing = Gathers (Each writing)
writes_as _ writing = Writes writing

-- by what a stage does; each that writes has the form of a file, and one that reads takes these fields
abbrev pub does_with : Role → BoundStage → Option FileForm → List ExtraField → StageForm
does_with r (does.Filters f only) form fields = Filters (started f only)
does_with r (does.Plugs only) form fields = Plugs only
does_with r (does.Gathers g) form fields = Gathers (Views g)
does_with r (does.Writes only extra) (Some form) fields = writes_as r (record { form = form; only = only })
does_with r (does.Tallies only) form fields = Tallies only
does_with r _ form fields = Reads fields

-- by its options, and where it stands
abbrev pub form_for : Options → Setting → StageForm
form_for o setting = does_with (role_of o) (bound_stage setting.dims setting.names o) (file_for o setting) setting.fields

-- its options are bound beside the extra names before it, where the points that it takes have these dimensions, and these names are the
-- ones behind it
pub record IsBoundBehind (o : Options) (b : BoundStage) (has : Dim → Bool) (before after : List (List ℕ)) : Type 0 where
  pub bound : b ≡ bound_stage has before o
  pub behind : after ≡ names_behind before o

-- a file that it writes can be written
abbrev pub IsGood : StageForm → Type 0
IsGood (Writes writing) = IsFileForm writing.form
IsGood (Gathers making) = IsGoodMaking making
IsGood _ = ⊤

-- ---- works at their start

-- a writer that had no point yet; `bytes` is what a sink tells
pub record IsBegun {S K P Q : Type 0} (bytes : K → Option (List ℕ)) (writing : Writing) (w : StageWork S K P Q) : Type 0 where
  pub is : writing_of w ≡ Some writing
  pub spot : writes_at w ≡ Some (spot_at 0)
  pub holds : holds_of bytes w [] ≡ true

-- a stage that needs whole views and took none yet
pub record HoldsNone (making : Making) (c : Collecting Making) : Type 0 where
  pub makes : c.making ≡ making
  pub short : c.short ≡ false
  pub views : c.views ≡ empty_flow

-- the stage of a filter of the caller that had no point yet, and takes points with these dimensions; and that of a tally
pub record ShowsNone {P : Type 0} (only : Option (Formula Dim)) (has : Dim → Bool) (w : PlugWork P) : Type 0 where
  pub only_is : w.only ≡ only
  pub layout_is : (dim : Dim) → holds w.layout dim ≡ has dim
  pub number : w.number ≡ 0
  pub begun : w.begun ≡ false

pub record TellsNone {Q : Type 0} (only : Option (Formula Dim)) (w : TallyWork Q) : Type 0 where
  pub only_is : w.only ≡ only
  pub number : w.number ≡ 0
  pub shown : w.shown ≡ 0

-- a work made of this that had no turn yet, and takes points with these dimensions
abbrev pub IsStarted : {S K P Q : Type 0} → (K → Option (List ℕ)) → (Dim → Bool) → StageForm → StageWork S K P Q → Type 0
IsStarted bytes has (Reads fields) (Reader r) = (r.progress ≡ Records 0) × (r.fields ≡ fields)
IsStarted bytes has (Filters f) (Filter g) = g ≡ f
IsStarted bytes has (Plugs only) (Plug w) = ShowsNone only has w
IsStarted bytes has (Tallies only) (Tally w) = TellsNone only w
IsStarted bytes has (Gathers g) (Collector c) = HoldsNone g c
IsStarted {S} {K} {P} {Q} bytes has (Writes writing) (Writer w) = IsBegun {S = S} {K = K} {P = P} {Q = Q} bytes writing (Writer w)
IsStarted bytes has _ _ = ⊥

-- a work does what a stage with these options does where it stands, and had no turn yet
abbrev pub IsAtStart : {S K P Q : Type 0} → (K → Option (List ℕ)) → Options → Setting → StageWork S K P Q → Type 0
IsAtStart bytes o setting w = IsStarted bytes setting.dims (form_for o setting) w

-- works that hold the devices of their stages' roles
abbrev pub HaveDevices : {S K P Q : Type 0} → List StageSpec → List (StageWork S K P Q) → Type 0
HaveDevices {S} {K} {P} {Q} stages works = (i : ℕ) (w : StageWork S K P Q) → slice_get works i ≡ Some w → op_of w ≡ op_for (role_at stages i)

-- these are the files of the readers among works
abbrev pub HaveRead : {S K P Q : Type 0} → List (StageWork S K P Q) → Opened → Type 0
HaveRead {S} works opened = (i : ℕ) (r : LasReader S) → slice_get works i ≡ Some (Reader r) → (opened.file i).read ≡ read_of r

-- the works of the first stages, as many as there are, are at their start behind the files of the readers among them
abbrev pub AreAtStart : {S K P Q : Type 0} → (K → Option (List ℕ)) → List StageSpec → List (StageWork S K P Q) → Type 0
AreAtStart {S} {K} {P} {Q} bytes stages works = (opened : Opened) → HaveRead works opened
    → (i : ℕ) (w : StageWork S K P Q) → slice_get works i ≡ Some w → IsAtStart bytes (options_at stages i) (setting_at stages opened i) w

-- the readers' sources tell these files
abbrev pub AreTold : {S K P Q : Type 0} → source.Ghosts S → List (StageWork S K P Q) → Opened → Type 0
AreTold {S} {K} {P} {Q} s works opened = (i : ℕ) (w : StageWork S K P Q) (r : LasReader S) → slice_get works i ≡ Some w → w ≡ Reader r → Tells s opened i r

-- ---- what a caller handed in

module _ {S K P Q : Type 0} (fs : plug_type.Ghosts P) (ts : tally_type.Ghosts Q) where
  -- the work of a stage with these options shows its points to what was handed in under the name that the stage has for it; a tally begins
  abbrev pub IsHandedIn : Options → Handed → StageWork S K P Q → Type 0
  IsHandedIn o handed (Plug w) = found_in handed.filters (plug_of o) ≡ Some (plug_nature fs w)
  IsHandedIn o handed (Tally w) = (found_in handed.tallies (tally_of o) ≡ Some (tally_nature ts w)) × (ts.state w.tally ≡ ts.opening w.tally)
  IsHandedIn o handed _ = ⊤

  abbrev pub AreHandedIn : List StageSpec → List (StageWork S K P Q) → Handed → Type 0
  AreHandedIn stages works handed = (i : ℕ) (w : StageWork S K P Q) → slice_get works i ≡ Some w → IsHandedIn (options_at stages i) handed w

-- works run on this: their sources tell these files, and this was handed in
pub record AreGiven {S K P Q : Type 0} (s : source.Ghosts S) (fs : plug_type.Ghosts P) (ts : tally_type.Ghosts Q) (stages : List StageSpec) (works : List (StageWork S K P Q)) (opened : Opened) : Type 0 where
  pub told : AreTold s works opened
  pub handed : AreHandedIn fs ts stages works opened.handed

-- a work takes whole views
abbrev pub IsCollecting : {S K P Q : Type 0} → StageWork S K P Q → Type 0
IsCollecting (Collector c) = ⊤
IsCollecting w = ⊥

-- how many points a stage writes, of those that it takes or of the views that it gives on
abbrev pub wrote_of : StageForm → Flow Point → Flow Point → Option ℕ
wrote_of (Writes x) taken given = Some (up_to_limit (length (chosen x.only (points taken))))
wrote_of (Gathers (Each x)) taken given = Some (up_to_limit (length (chosen x.only (all_of given.views))))
wrote_of _ taken given = None

-- whether it shows its points to a tally, and whether to a filter or a tally of the caller
abbrev pub tells_points : StageForm → Bool
tells_points (Tallies only) = true
tells_points _ = false

abbrev pub shows_points : StageForm → Bool
shows_points (Plugs only) = true
shows_points form = tells_points form

-- what it writes of each of these views, which it keeps for that
abbrev pub kept_for : StageForm → Flow Point → Option (Writing × Flow Point)
kept_for (Gathers making) given = kept_by making given
kept_for _ given = None

-- how many files
abbrev pub files_of : StageForm → Flow Point → ℕ
files_of (Writes x) given = 1
files_of (Gathers (Each x)) given = up_to_limit (length given.views)
files_of _ given = 0
