-- What a stage's work is made of is what its row says.
use Rattle.std.proofs.Common.{◌≡◌, ℕ, Bool, true, false, List, [], filter, Option, Some, None, refl, ap, sym, ◌∙◌, true≢false}
use Rattle.std.specs.Prelude.{option_map}
use Rattle.cloud_points.specs.Clearing.{cleared}
use Rattle.cloud_points.specs.Meaning.{Nature}
use Rattle.cloud_points.specs.declared.dims.Dim.{Dim}
use Rattle.plug_stages.specs.Folds.{last_view}
use Rattle.expr_lang.specs.Formula.{Formula}
use Rattle.stage_meanings.specs.Conditions.{passes}
use Rattle.stage_meanings.specs.Filtering.{Admit}
use Rattle.plug_stages.specs.Handed.{named_in}
use Rattle.plug_stages.specs.TallySteps.{passing}
use Rattle.cloud_points.specs.declared.point.Point.{Point}
use Rattle.cloud_points.specs.Flows.{Flow, points}
use Rattle.stage_meanings.specs.ByRule.{spot_at}
use Rattle.stream_filters.specs.Kinds.{filtering_of, spot_of}
use Rattle.stream_filters.specs.declared.filter.Filter.{Filter as Filtering}
use Rattle.stage_kinds.specs.declared.file_form.StageForm.{StageForm}
use Rattle.stage_kinds.specs.declared.file_form.StageForm.TheVariants.{Reads, Filters, Plugs, Tallies, Gathers, Writes}
use Rattle.stage_kinds.specs.declared.file_form.Writing.{Writing}
use Rattle.stage_kinds.specs.declared.making.Making.{Making}
use Rattle.stage_kinds.specs.declared.making.Making.TheVariants.{Gathers as Views, WritesEach as Each}
use Rattle.stage_kinds.specs.Files.{chosen, file_bytes, unwritten}
use Rattle.stage_kinds.specs.Makings.{made_by, fault_by}
use Rattle.stage_kinds.specs.Stages.{writing_filter}
use Rattle.stage_options.specs.declared.options.Options.{Options}
use Rattle.stage_options.specs.declared.options.Options.TheVariants.{ReadersLas, FiltersSort, FiltersTail, FiltersGroupby, FiltersSplitter, FiltersVoxeldownsize, FiltersPlug, WritersLas, WritersText, WritersTally}
use Rattle.stage_options.specs.Roles.{plug_of, tally_of, role_of, is_reading, is_gathering, is_writing}
use Rattle.stage_options.specs.Values.{is_numbered}
use Rattle.stage_options.specs.Roles as role
use Rattle.answer_model.specs.Naming.{found_in}
use Rattle.answer_model.specs.Rows.{Setting, folds, remembered_by, row_of, said_by, shows, value_on}
use Rattle.answer_model.specs.Rows as rows
use Rattle.stage_forms.specs.Starts.{writes_as, form_for}
use Rattle.answer_model.specs.Values.{op_for}
use Rattle.whole_filters.specs.declared.gathering.Gathering.{Gathering}

-- ---- what a stage's work is made of is what its row says

pub record IsFilterRow (f : Filtering) (o : Options) (setting : Setting) : Type 0 where
  pub does : role_of o ≡ role.Filters
  pub begins : spot_of f ≡ spot_at 0
  pub filtering : (row_of o setting).making ≡ rows.Judging (filtering_of f)

-- by its role; and what it makes of a flow is the stage's value, and its fault there
pub record IsGatherRow (m : Making) (o : Options) (setting : Setting) : Type 0 where
  pub gathers : is_gathering (role_of o) ≡ true
  pub inner : is_reading (role_of o) ≡ false
  pub later : is_writing (role_of o) ≡ false
  pub device : op_for (role_of o) ≡ None
  pub makes : (flow : Flow Point) → made_by m flow ≡ value_on (row_of o setting) flow
  pub fault : (flow : Flow Point) → fault_by m flow ≡ rows.fault_on (row_of o setting) flow

pub record IsWriterRow (x : Writing) (o : Options) (setting : Setting) : Type 0 where
  pub name : List ℕ
  pub does : role_of o ≡ role.Writes name
  pub filtering : (row_of o setting).making ≡ rows.Judging (writing_filter x)
  pub chooses : (ps : List Point) → chosen x.only ps ≡ filter ((row_of o setting).writes) ps
  pub bytes : (ps : List Point) → file_bytes x.form ps ≡ (row_of o setting).bytes ps

-- a writer of a file for each view
pub record IsEachRow (x : Writing) (o : Options) (setting : Setting) : Type 0 where
  pub name : List ℕ
  pub does : role_of o ≡ role.WritesEach name
  pub chooses : (ps : List Point) → chosen x.only ps ≡ filter ((row_of o setting).writes) ps
  pub bytes : (ps : List Point) → file_bytes x.form ps ≡ (row_of o setting).bytes ps

abbrev pub IsMakingRow : Making → Options → Setting → Type 0
IsMakingRow (Views g) o setting = role_of o ≡ role.Gathers
IsMakingRow (Each x) o setting = IsEachRow x o setting

-- a filter of the caller, which is the one of the name that the stage has for it
pub record IsPlugRow (only : Option (Formula Dim)) (o : Options) (setting : Setting) : Type 0 where
  pub does : role_of o ≡ role.Filters
  pub folds : (n : Nature Point) → found_in setting.handed.filters (plug_of o) ≡ Some n → (row_of o setting).making ≡ rows.Folding n.step n.opening (cleared setting.dims) only
  pub silent : (row_of o setting).says ≡ None
  pub leaves : (n : Nature Point) → found_in setting.handed.filters (plug_of o) ≡ Some n → (flow : Flow Point)
      → (row_of o setting).leaves flow ≡ option_map (remembered_by n only) (last_view flow.views flow.open_view)

-- a tally likewise
pub record IsTallyRow (only : Option (Formula Dim)) (o : Options) (setting : Setting) : Type 0 where
  pub does : role_of o ≡ role.Filters
  pub judges : (row_of o setting).making ≡ rows.Judging (Admit (λ k p. None) only)
  pub shows : (ps : List Point) → filter ((row_of o setting).writes) ps ≡ passing (passes only) ps
  pub says : (n : Nature Point) → found_in setting.handed.tallies (tally_of o) ≡ Some n → (row_of o setting).says ≡ Some (said_by n)
  pub leaves : (n : Nature Point) → found_in setting.handed.tallies (tally_of o) ≡ Some n → (flow : Flow Point)
      → (row_of o setting).leaves flow ≡ Some (remembered_by n only (points flow))

abbrev pub IsRow : StageForm → Options → Setting → Type 0
IsRow (Reads fields) o setting = (is_reading (role_of o) ≡ true) × (op_for (role_of o) ≡ op_for (role.Reads [])) × (fields ≡ setting.fields)
IsRow (Filters f) o setting = IsFilterRow f o setting
IsRow (Plugs only) o setting = IsPlugRow only o setting
IsRow (Tallies only) o setting = IsTallyRow only o setting
IsRow (Gathers m) o setting = IsGatherRow m o setting × IsMakingRow m o setting
IsRow (Writes x) o setting = IsWriterRow x o setting

-- a writer by whether it writes a file of each view
pub writes-row : (each : Bool) (name : List ℕ) (x : Writing) (o : Options) (setting : Setting) → role_of o ≡ role.writing_by each name
    → (row_of o setting).making ≡ rows.admits each (unwritten x.form) x.only
    → ((ps : List Point) → chosen x.only ps ≡ filter ((row_of o setting).writes) ps) → ((ps : List Point) → file_bytes x.form ps ≡ (row_of o setting).bytes ps)
    → IsRow (writes_as (role.writing_by each name) x) o setting
writes-row false name x o setting does making chooses bytes = record { name = name; does = does; filtering = making; chooses = chooses; bytes = bytes }
writes-row true name x o setting does making chooses bytes = (
  record {
    gathers = ap is_gathering does;
    inner = ap is_reading does;
    later = ap is_writing does;
    device = ap op_for does;
    makes = λ flow. ap (λ m. rows.made m flow) (sym making);
    fault = λ flow. ap (λ m. rows.stop m flow) (sym making);
  },
  record { name = name; does = does; chooses = chooses; bytes = bytes },
)

pub gathers-row : (g : Gathering) (o : Options) (setting : Setting) → role_of o ≡ role.Gathers → (row_of o setting).making ≡ rows.Gathered g → IsRow (Gathers (Views g)) o setting
gathers-row g o setting does making = (
  record {
    gathers = ap is_gathering does;
    inner = ap is_reading does;
    later = ap is_writing does;
    device = ap op_for does;
    makes = λ flow. ap (λ m. rows.made m flow) (sym making);
    fault = λ flow. ap (λ m. rows.stop m flow) (sym making);
  },
  does,
)

pub row-is : (o : Options) (setting : Setting) → IsRow (form_for o setting) o setting
row-is (ReadersLas o) setting = (refl, refl, refl)
row-is (WritersLas o) setting = writes-row (is_numbered o.filename) o.filename _ (WritersLas o) setting refl refl (λ ps. refl) (λ ps. refl)
row-is (WritersText o) setting = writes-row (is_numbered o.filename) o.filename _ (WritersText o) setting refl refl (λ ps. refl) (λ ps. refl)
row-is (FiltersPlug o) setting = record {
  does = refl;
  folds = λ n e. ap (λ h. (folds setting.names setting.dims h o.only).making) e;
  silent = silent (named_in setting.handed.filters o.plug);
  leaves = λ n e flow. ap (λ h. (folds setting.names setting.dims h o.only).leaves flow) e;
}
  where
    silent : (h : Option (Nature Point)) → (folds setting.names setting.dims h o.only).says ≡ None
    silent None = refl
    silent (Some n) = refl
row-is (WritersTally o) setting = record {
  does = refl;
  judges = refl;
  shows = λ ps. refl;
  says = λ n e. ap (option_map said_by) e;
  leaves = λ n e flow. ap (λ h. (shows setting.names h o.only).leaves flow) e;
}
row-is (FiltersSort o) setting = gathers-row _ (FiltersSort o) setting refl refl
row-is (FiltersTail o) setting = gathers-row _ (FiltersTail o) setting refl refl
row-is (FiltersGroupby o) setting = gathers-row _ (FiltersGroupby o) setting refl refl
row-is (FiltersSplitter o) setting = gathers-row _ (FiltersSplitter o) setting refl refl
row-is (FiltersVoxeldownsize o) setting = gathers-row _ (FiltersVoxeldownsize o) setting refl refl
row-is o setting = record { does = refl; begins = refl; filtering = refl }

-- a stage that reads is made of the fields that it takes
pub reads-form : (o : Options) (setting : Setting) → is_reading (role_of o) ≡ true → form_for o setting ≡ Reads setting.fields
reads-form o setting reads = go (form_for o setting) refl (row-is o setting)
  where
    go : (form : StageForm) → form_for o setting ≡ form → IsRow form o setting → form_for o setting ≡ Reads setting.fields
    go (Reads fields) e row = e ∙ ap Reads row.2
    go (Filters f) e row = absurd (true≢false (sym reads ∙ ap is_reading row.does))
    go (Plugs only) e row = absurd (true≢false (sym reads ∙ ap is_reading row.does))
    go (Tallies only) e row = absurd (true≢false (sym reads ∙ ap is_reading row.does))
    go (Gathers g) e row = absurd (true≢false (sym reads ∙ row.0.inner))
    go (Writes x) e row = absurd (true≢false (sym reads ∙ ap is_reading row.does))

-- no writer reads
pub writer-inner : (each : Bool) (name : List ℕ) → is_reading (role.writing_by each name) ≡ false
writer-inner true name = refl
writer-inner false name = refl
