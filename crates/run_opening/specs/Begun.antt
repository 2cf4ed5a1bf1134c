-- The stages of a tree before their first turn.
use Rattle.std.specs.Prelude.{◌≡◌, ℕ, ◌<◌, ◌≤◌, Bool, List, [], length, slice_get, slice_index_or, is_some, true, false, Option, Some, None, option_map, ⊤}
use Rattle.file_devices.specs.Named.{Names}
use Rattle.file_devices.specs.declared.devices.Source as source
use Rattle.file_devices.specs.declared.devices.Sink as sink
use Rattle.cloud_points.specs.Layouts as laid
use Rattle.cloud_points.specs.declared.dims.Dim.{Dim}
use Rattle.cloud_points.specs.declared.extra.ExtraField.{ExtraField}
use Rattle.cloud_points.specs.declared.layout.Layout.{Layout}
use Rattle.las_reader.specs.declared.reader.LasReader.{LasReader}
use Rattle.las_reader.specs.declared.reader.Progress.TheVariants.{Records}
use Rattle.las_reader.specs.Lists.{AreFields}
use Rattle.forward_rules.specs.Forwarded.{ReadFile}
use Rattle.stage_kinds.specs.declared.stage_work.StageWork.{StageWork}
use Rattle.stage_kinds.specs.declared.stage_work.StageWork.TheVariants.{Reader}
use Rattle.stage_kinds.specs.declared.file_form.StageForm.{StageForm}
use Rattle.stage_kinds.specs.declared.file_form.StageForm.TheVariants as form
use Rattle.stage_kinds.specs.Files.{IsFileForm}
use Rattle.stage_kinds.specs.Held.{faults_of, op_of}
use Rattle.stage_kinds.specs.Makings.{IsGoodMaking}
use Rattle.plug_stages.specs.Handed.{none_handed}
use Rattle.run_opening.specs.Headers.{header_at}
use Rattle.run_report.specs.declared.refusal.Refusal.{Refusal}
use Rattle.run_report.specs.declared.refusal.Refusal.TheVariants.{Memory, Pipeline}
use Rattle.stage_forms.specs.Below.{HaveReaders, Tells, read_of}
use Rattle.stage_options.specs.Roles.{Role, Reads, Filters, plug_of, role_of, tally_of, is_reading, is_writing}
use Rattle.stage_options.specs.declared.options.Options.{Options}
use Rattle.stage_options.specs.declared.stage.StageSpec.{StageSpec}
use Rattle.answer_model.specs.Rows.{Setting}
use Rattle.answer_model.specs.Values.{LasFile, Opened, dims_at, options_at, op_for, role_at, setting_at, unbound_at, least_from}
use Rattle.answer_model.specs.Runs.{holds, unread}
use Rattle.stage_forms.specs.Starts.{IsAtStart, form_for}

-- ---- readers

-- of a file whose header counts no EVLRs nothing behind its header and its VLRs was read
abbrev pub IsInFront : {S : Type 0} → (S → ℕ) → LasReader S → Type 0
IsInFront reached r = r.header.evlrs ≡ 0 → reached r.source ≤ r.header.points_at

-- files, where the caller handed nothing in
abbrev pub over_files : (ℕ → LasFile) → Opened
over_files files = record { file = files; handed = none_handed }

-- a reader at its start, of stage i, which does this; where the map is told, its file can be read, and its source, which didn't fail, tells it
pub record IsReading {S : Type 0} (s : source.Ghosts S) (map : Option Names) (i : ℕ) (role : Role) (r : LasReader S) : Type 0 where
  pub start : r.progress ≡ Records 0
  pub read : (m : Names) → map ≡ Some m → unread m i role ≡ None
  pub tells : (m : Names) → map ≡ Some m → Tells s (over_files (λ k. holds m k role)) i r
  pub front : IsInFront s.reached r
  pub header : (m : Names) → map ≡ Some m → header_at m role ≡ Some r.header
  pub calm : s.faults r.source ≡ 0

-- a stage has a reader exactly where it reads
abbrev pub IsOpened : {S : Type 0} → source.Ghosts S → Option Names → ℕ → Role → Option (LasReader S) → Type 0
IsOpened s map i (Reads name) (Some r) = IsReading s map i (Reads name) r
IsOpened s map i (Reads name) None = ⊥
IsOpened s map i role (Some r) = ⊥
IsOpened s map i role None = ⊤

-- so it is at the first stages, as many as there are
abbrev pub AreOpened : {S : Type 0} → source.Ghosts S → Option Names → List StageSpec → List (Option (LasReader S)) → Type 0
AreOpened {S} s map stages readers = (i : ℕ) (o : Option (LasReader S)) → slice_get readers i ≡ Some o → IsOpened s map i (role_at stages i) o

-- ---- forms

-- what the works of the first stages are made of, as many as there are, by their options and where they stand, over the files of these readers
abbrev pub AreForms : {S : Type 0} → List StageSpec → List (Option (LasReader S)) → List StageForm → Type 0
AreForms {S} stages readers forms = (opened : Opened) → HaveReaders readers opened → (i : ℕ) (f : StageForm) → slice_get forms i ≡ Some f → f ≡ form_for (options_at stages i) (setting_at stages opened i)

-- the dimensions of the points that the first stages give on, as many as there are, over the files of these readers
abbrev pub AreLayouts : {S : Type 0} → List StageSpec → List (Option (LasReader S)) → List Layout → Type 0
AreLayouts {S} stages readers layouts = (opened : Opened) → HaveReaders readers opened → (i : ℕ) (l : Layout) → slice_get layouts i ≡ Some l → (dim : Dim) → laid.holds l dim ≡ dims_at stages opened i dim

-- a work made of this does what a stage with these options does, shows points only to what they name, and can write its file
abbrev pub IsForm : Options → StageForm → Type 0
IsForm o (form.Reads fields) = is_reading (role_of o) ≡ true
IsForm o (form.Filters f) = role_of o ≡ Filters
IsForm o (form.Plugs only) = (role_of o ≡ Filters) × (is_some (plug_of o) ≡ true)
IsForm o (form.Tallies only) = (role_of o ≡ Filters) × (is_some (tally_of o) ≡ true)
IsForm o (form.Gathers m) = (op_for (role_of o) ≡ None) × (is_reading (role_of o) ≡ false) × IsGoodMaking m
IsForm o (form.Writes x) = (is_writing (role_of o) ≡ true) × IsFileForm x.form

abbrev pub FitStages : List StageSpec → List StageForm → Type 0
FitStages stages forms = (i : ℕ) (f : StageForm) → slice_get forms i ≡ Some f → IsForm (options_at stages i) f

-- the fields that a reader is to take lie in the records of its file
abbrev pub IsFine : {S : Type 0} → Option (LasReader S) → StageForm → Type 0
IsFine (Some r) (form.Reads fields) = AreFields r.header.record_length fields
IsFine reader form = ⊤

abbrev pub AreFine : {S : Type 0} → List (Option (LasReader S)) → List StageForm → Type 0
AreFine readers forms = (i : ℕ) (f : StageForm) → slice_get forms i ≡ Some f → IsFine (slice_index_or readers i None) f

-- the names of dimensions in the options of the first so many stages are bound
abbrev pub AreNamesBound : {S : Type 0} → List StageSpec → List (Option (LasReader S)) → ℕ → Type 0
AreNamesBound stages readers count = (opened : Opened) → HaveReaders readers opened → (i : ℕ) → i < count → unbound_at stages opened i ≡ None

-- why they aren't: memory was wanting, or this is the fault of the first stage that has one
abbrev pub IsUnbound : {S : Type 0} → List StageSpec → List (Option (LasReader S)) → Refusal → Type 0
IsUnbound stages readers Memory = ⊤
IsUnbound stages readers (Pipeline f) = (opened : Opened) → HaveReaders readers opened → (i : ℕ) × (least_from (unbound_at stages opened) (length stages) 0 ≡ Some (i, f))
IsUnbound stages readers refusal = ⊥

-- what the works of stages are made of: for each stage its place for a reader, which is opened where the stage reads, a form that does what the
-- stage does, and a layout
pub record AreMade {S : Type 0} (s : source.Ghosts S) (map : Option Names) (stages : List StageSpec) (readers : List (Option (LasReader S))) (forms : List StageForm) (layouts : List Layout) : Type 0 where
  pub opened : AreOpened s map stages readers
  pub readers_each : length readers ≡ length stages
  pub fits : FitStages stages forms
  pub fine : AreFine readers forms
  pub forms_each : length forms ≡ length stages
  pub layouts_each : length layouts ≡ length stages

-- ---- works

-- the reader of a work
abbrev pub reader_of : {S K P Q : Type 0} → StageWork S K P Q → Option (LasReader S)
reader_of (Reader r) = Some r
reader_of _ = None

-- it is that of this reader, which takes these fields
pub record IsReaderOf {S K P Q : Type 0} (reader : LasReader S) (fields : List ExtraField) (w : StageWork S K P Q) : Type 0 where
  pub with_fields : LasReader S
  pub is : w ≡ Reader with_fields
  pub source : with_fields.source ≡ reader.source
  pub header : with_fields.header ≡ reader.header
  pub lists : (with_fields.vlrs ≡ reader.vlrs) × (with_fields.evlrs ≡ reader.evlrs)
  pub start : with_fields.progress ≡ reader.progress
  pub taken : with_fields.fields ≡ fields

-- what a writer may take over of the file of a reader, where there is one
abbrev pub read_with : {S : Type 0} → Option (LasReader S) → Option ReadFile
read_with reader = option_map read_of reader

-- a filter of the caller takes points with the dimensions of this layout
abbrev pub IsLaidOut : Layout → (Dim → Bool) → StageForm → Type 0
IsLaidOut layout has (form.Plugs only) = (dim : Dim) → laid.holds layout dim ≡ has dim
IsLaidOut layout has _ = ⊤

-- the work of stage i, which has these options, at its start: over its reader, or made of this; a reader's source tells its file, and its
-- device didn't fail
pub record IsWork {S K P Q : Type 0} (s : source.Ghosts S) (k : sink.Ghosts K) (map : Option Names) (i : ℕ) (o : Options) (reader : Option (LasReader S)) (form : StageForm) (layout : Layout) (w : StageWork S K P Q) : Type 0 where
  pub same : read_with (reader_of w) ≡ read_with reader
  pub start : (setting : Setting) → form ≡ form_for o setting → IsLaidOut layout setting.dims form → IsAtStart k.bytes o setting w
  pub device : op_of w ≡ op_for (role_of o)
  pub tells : (m : Names) → map ≡ Some m → (r : LasReader S) → w ≡ Reader r → Tells s (over_files (λ j. holds m j (role_of o))) i r
  pub front : (r : LasReader S) → w ≡ Reader r → IsInFront s.reached r
  pub header : (m : Names) → map ≡ Some m → (r : LasReader S) → w ≡ Reader r → header_at m (role_of o) ≡ Some r.header
  pub calm : faults_of s.faults k.faults w ≡ 0

-- so it is at the first stages, as many as there are
abbrev pub AreBegun : {S K P Q : Type 0} → source.Ghosts S → sink.Ghosts K → Option Names → List StageSpec → List (Option (LasReader S)) → List StageForm → List Layout → List (StageWork S K P Q) → Type 0
AreBegun {S} {K} {P} {Q} s k map stages readers forms layouts works = (i : ℕ) (w : StageWork S K P Q) (layout : Layout) → slice_get works i ≡ Some w → slice_get layouts i ≡ Some layout
    → IsWork s k map i (options_at stages i) (slice_index_or readers i None) (slice_index_or forms i (form.Reads [])) layout w
