-- What the works of stages tell and make, by what they are made of.
use Rattle.std.proofs.Common.{◌≡◌, ℕ, Bool, true, false, List, [], filter, Option, Some, None, refl, ap, sym, subst, ◌∙◌, true≢false}
use Rattle.std.specs.Prelude.{option_map, length}
use Rattle.std.proofs.lemmas.Option.{same_Some}
use Rattle.cloud_points.specs.Clearing.{cleared}
use Rattle.cloud_points.specs.Layouts.{holds}
use Rattle.cloud_points.specs.declared.dims.Dim.{Dim}
use Rattle.expr_lang.specs.Formula.{Formula}
use Rattle.stage_meanings.specs.Conditions.{passes}
use Rattle.stage_meanings.specs.Filtering.{Admit}
use Rattle.stage_meanings.specs.Filters.{before_stop, point_fault}
use Rattle.stage_meanings.specs.declared.spot.Spot.{Spot}
use Rattle.plug_stages.specs.PlugSteps.{plug_spot_at}
use Rattle.plug_stages.specs.TallySteps.{tally_spot_at}
use Rattle.plug_stages.specs.Works.{plug_meaning, plug_nature, plug_spot, tally_meaning, tally_nature, tally_spot}
use Rattle.plug_stages.specs.declared.filter.PlugFilter as plug_type
use Rattle.plug_stages.specs.declared.plug_work.PlugWork.{PlugWork}
use Rattle.plug_stages.specs.declared.tally.PlugTally as tally_type
use Rattle.plug_stages.specs.declared.tally_work.TallyWork.{TallyWork}
use Rattle.stage_kinds.specs.declared.writer_stage.WriterStage.{WriterStage}
use Rattle.las_reader.specs.declared.reader.Progress.TheVariants.{Records}
use Rattle.stage_names.specs.Kinds as names
use Rattle.stage_options.specs.Kinds.{kind_of}
use Rattle.file_devices.specs.declared.devices.Source as source
use Rattle.cloud_points.specs.declared.point.Point.{Point}
use Rattle.cloud_points.specs.declared.faults.StageFault.TheVariants as stage
use Rattle.cloud_points.specs.Flows.{Flow, all_of, points}
use Rattle.cloud_points.specs.Queue.{up_to_limit}
use Rattle.cloud_points.specs.Marks.{flow_marks}
use Rattle.las_reader.specs.Files.{Las as LasPoints, las_with}
use Rattle.las_reader.specs.Flows.{las_flow, las_fault}
use Rattle.las_reader.specs.declared.reader.LasReader.{LasReader}
use Rattle.network_theory.specs.Machine.{made_of, fault_on}
use Rattle.stream_filters.specs.Kinds.{filtering_of}
use Rattle.stage_kinds.specs.declared.file_form.StageForm.{StageForm}
use Rattle.stage_kinds.specs.declared.file_form.StageForm.TheVariants.{Reads, Filters, Plugs, Tallies, Gathers, Writes}
use Rattle.stage_kinds.specs.declared.file_form.Writing.{Writing}
use Rattle.stage_kinds.specs.declared.stage_work.StageWork.{StageWork}
use Rattle.stage_kinds.specs.declared.stage_work.StageWork.TheVariants.{Reader, Filter, Plug, Tally, Collector, Writer}
use Rattle.stage_kinds.specs.declared.stage_work.StageState.TheVariants.{Filtering as At, Plugging, Tallying, Writing as Written}
use Rattle.stage_kinds.specs.declared.making.Making.{Making}
use Rattle.stage_kinds.specs.declared.making.Making.TheVariants.{WritesEach as Each}
use Rattle.stage_kinds.specs.Files.{chosen}
use Rattle.stage_kinds.specs.Held.{op_of}
use Rattle.stage_kinds.specs.Stages.{begun, filter_work, plug_work, tally_work, spot_in, writes_of, writer_work, stops_nowhere, meaning_of, state_of, is_leaf, holds_of, keeps_of, writing_of}
use Rattle.stage_kinds.specs.Reads.{tells_of, told_of, told_fault_of}
use Rattle.stage_kinds.proofs.Streams.{filter_gives, filter_fault, plug_gives, plug_fault, tally_gives, tally_fault, writer_gives, writer_fault, sound_nowhere}
use Rattle.stage_kinds.proofs.Telling.{reader_starts}
use Rattle.stage_options.specs.declared.options.Options.{Options}
use Rattle.stage_options.specs.declared.options.Options.TheVariants.{ReadersLas, WritersLas, WritersText}
use Rattle.stage_options.specs.Roles.{Role, role_of, is_reading, is_gathering, is_writing}
use Rattle.stage_options.specs.Values.{is_numbered}
use Rattle.stage_options.specs.Roles as role
use Rattle.answer_model.specs.Rows.{Row, Setting, folds, row_of, value_on}
use Rattle.answer_model.specs.Rows as rows
use Rattle.answer_model.specs.Values.{LasFile, Opened, wrote_with, files_with, op_for}
use Rattle.stage_forms.specs.Starts.{files_of, wrote_of, writes_as, IsBegun, IsCollecting, IsHandedIn, ShowsNone, TellsNone, HoldsNone, IsAtStart, IsStarted, form_for}
use Rattle.view_works.specs.declared.collector.Collector.{Collector as Collecting}
use Rattle.stage_forms.specs.Below.{Tells}
use Rattle.stage_forms.proofs.Clearing.{none-against, folds-same}
use Rattle.stage_forms.proofs.Rowed.{IsGatherRow, IsWriterRow, IsEachRow, IsRow, row-is, writer-inner}

-- a leaf is the work of a reader, and tells the flow and the fault of its file
pub record IsLeaf {S K P Q : Type 0} (s : source.Ghosts S) (o : Options) (las : LasPoints) (w : StageWork S K P Q) : Type 0 where
  pub reads : is_reading (role_of o) ≡ true
  pub tells : tells_of s.bytes w ≡ true
  pub told : told_of s.bytes w ≡ flow_marks (las_flow las)
  pub fault : told_fault_of s.bytes w ≡ option_map stage.Point (las_fault las)

-- any other work of a stage that doesn't need whole views makes the value of its stage, and has the stage's fault
pub record IsInner {S K P Q : Type 0} (fs : plug_type.Ghosts P) (ts : tally_type.Ghosts Q) (o : Options) (setting : Setting) (w : StageWork S K P Q) : Type 0 where
  pub inner : is_reading (role_of o) ≡ false
  pub makes : (flow : Flow Point) → made_of (meaning_of fs ts w) (state_of fs ts w) flow ≡ flow_marks (value_on (row_of o setting) flow)
  pub fault : (flow : Flow Point) → fault_on (meaning_of fs ts w) (state_of fs ts w) flow ≡ option_map stage.Point (rows.fault_on (row_of o setting) flow)

-- ---- states at the start

both : {A B : Type 0} {a c : A} {b d : B} → a ≡ c → b ≡ d → ◌≡◌ {A = A × B} (a, b) (c, d)
both e f = rw (e, f) refl

pub plug-begins : {P : Type 0} (fs : plug_type.Ghosts P) (w : PlugWork P) (only : Option (Formula Dim)) (has : Dim → Bool) → ShowsNone only has w → plug_spot fs w ≡ plug_spot_at 0 (fs.state w.plug)
plug-begins fs w only has start = ap (λ (y : ℕ × Bool). record { number = y.0; begun = y.1; remembered = fs.state w.plug }) (both start.number start.begun)

pub tally-begins : {Q : Type 0} (ts : tally_type.Ghosts Q) (w : TallyWork Q) (only : Option (Formula Dim)) → TellsNone only w → tally_spot ts w ≡ tally_spot_at 0 0 (ts.state w.tally)
tally-begins ts w only start = ap (λ (y : ℕ × ℕ). record { number = y.0; shown = y.1; remembered = ts.state w.tally }) (both start.number start.shown)

pub writer-begins : {S K P Q : Type 0} {bytes : K → Option (List ℕ)} (w : WriterStage K) (x : Writing) → IsBegun {S = S} {K = K} {P = P} {Q = Q} bytes x (Writer w) → Written (writes_of w) (spot_in w) ≡ begun x
writer-begins w x start = ap (λ (y : Writing × Spot). Written y.0 y.1) (both (same_Some _ _ start.is) (same_Some _ _ start.spot))

-- ---- works at their start

module _ {S K P Q : Type 0} (s : source.Ghosts S) (bytes : K → Option (List ℕ)) where
  pub leaf-is : (o : Options) (setting : Setting) (opened : Opened) (i : ℕ) (w : StageWork S K P Q) → IsAtStart bytes o setting w → is_leaf w ≡ true → ((r : LasReader S) → w ≡ Reader r → Tells s opened i r) → IsLeaf s o ((opened.file i).las setting.fields) w
  leaf-is o setting opened i w start leaf tell = go (form_for o setting) (row-is o setting) w start leaf tell
    where
      go : (form : StageForm) → IsRow form o setting → (w : StageWork S K P Q) → IsStarted bytes setting.dims form w → is_leaf w ≡ true → ((r : LasReader S) → w ≡ Reader r → Tells s opened i r) → IsLeaf s o ((opened.file i).las setting.fields) w
      go (Reads fields) row (Reader r) start leaf tell = (
          let t = tell r refl in
          let f = reader_starts {K = K} {P = P} {Q = Q} s.bytes r t.file start.0 t.told in
          let las = ap (λ (x : LasFile). x.las setting.fields) t.holds ∙ ap (λ fields. las_with r.header fields t.file) (sym (start.1 ∙ row.2)) in
          record {
            reads = row.0;
            tells = f.tells;
            told = f.told ∙ ap (λ las. flow_marks (las_flow las)) (sym las);
            fault = f.fault ∙ ap (λ las. option_map stage.Point (las_fault las)) (sym las);
          })
      go (Filters f) row (Filter g) start leaf tell = absurd (true≢false (sym leaf))
      go (Plugs only) row (Plug v) start leaf tell = absurd (true≢false (sym leaf))
      go (Tallies only) row (Tally v) start leaf tell = absurd (true≢false (sym leaf))
      go (Gathers g) row (Collector c) start leaf tell = absurd (true≢false (sym leaf))
      go (Writes x) row (Writer v) start leaf tell = absurd (true≢false (sym leaf))
      go form row w start leaf tell = absurd start

  pub inner-is : (fs : plug_type.Ghosts P) (ts : tally_type.Ghosts Q) (o : Options) (setting : Setting) (w : StageWork S K P Q) → IsAtStart bytes o setting w → IsHandedIn fs ts o setting.handed w
      → is_leaf w ≡ false → is_gathering (role_of o) ≡ false → IsInner fs ts o setting w
  inner-is fs ts o setting w start handed inner streams = go (form_for o setting) (row-is o setting) w start handed inner
    where
      go : (form : StageForm) → IsRow form o setting → (w : StageWork S K P Q) → IsStarted bytes setting.dims form w → IsHandedIn fs ts o setting.handed w → is_leaf w ≡ false → IsInner fs ts o setting w
      go (Reads fields) row (Reader r) start handed inner = absurd (true≢false inner)
      go (Filters f) row (Filter g) start handed inner = subst (λ h. IsInner {S = S} {K = K} {P = P} {Q = Q} fs ts o setting (Filter h)) (sym start) (record {
        inner = ap is_reading row.does;
        makes = λ flow. ap (λ t. made_of (filter_work (filtering_of f)) (At t) flow) row.begins ∙ filter_gives (filtering_of f) flow ∙ ap (λ m. flow_marks (rows.made m flow)) (sym row.filtering);
        fault = λ flow. ap (λ t. fault_on (filter_work (filtering_of f)) (At t) flow) row.begins ∙ filter_fault (filtering_of f) flow ∙ ap (λ m. option_map stage.Point (rows.stop m flow)) (sym row.filtering);
      })
      go (Plugs only) row (Plug v) start handed inner = record {
        inner = ap is_reading row.does;
        makes = λ flow. ap (λ t. made_of (plug_work (plug_meaning fs v)) (Plugging t) flow) (plug-begins fs v only setting.dims start)
            ∙ plug_gives (plug_nature fs v) (fs.opening v.plug) (fs.step v.plug) (cleared (holds v.layout)) (passes v.only) (fs.state v.plug) flow
            ∙ ap (λ (y : Option (Formula Dim)). flow_marks (rows.made (rows.Folding (fs.step v.plug) (fs.opening v.plug) (cleared (holds v.layout)) y) flow)) start.only_is
            ∙ ap flow_marks (folds-same (fs.step v.plug) (fs.opening v.plug) (holds v.layout) setting.dims only start.layout_is flow)
            ∙ ap (λ m. flow_marks (rows.made m flow)) (sym (row.folds (plug_nature fs v) handed));
        fault = λ flow. ap (λ t. fault_on (plug_work (plug_meaning fs v)) (Plugging t) flow) (plug-begins fs v only setting.dims start)
            ∙ plug_fault (plug_nature fs v) (fs.opening v.plug) (fs.step v.plug) (cleared (holds v.layout)) (passes v.only) (fs.state v.plug) flow
            ∙ ap (λ (y : Option (Formula Dim)). option_map stage.Point (rows.stop (rows.Folding (fs.step v.plug) (fs.opening v.plug) (cleared setting.dims) y) flow)) start.only_is
            ∙ ap (λ m. option_map stage.Point (rows.stop m flow)) (sym (row.folds (plug_nature fs v) handed));
      }
      go (Tallies only) row (Tally v) start handed inner = record {
        inner = ap is_reading row.does;
        makes = λ flow. ap (λ t. made_of (tally_work (tally_meaning ts v)) (Tallying t) flow) (tally-begins ts v only start)
            ∙ tally_gives (tally_nature ts v) (ts.step v.tally) (passes v.only) (ts.state v.tally) flow
            ∙ ap (λ o. flow_marks (before_stop o flow)) (sym (none-against (passes v.only) flow))
            ∙ ap (λ (y : Option (Formula Dim)). flow_marks (rows.made (rows.Judging (Admit (λ k p. None) y)) flow)) start.only_is
            ∙ ap (λ m. flow_marks (rows.made m flow)) (sym row.judges);
        fault = λ flow. ap (λ t. fault_on (tally_work (tally_meaning ts v)) (Tallying t) flow) (tally-begins ts v only start)
            ∙ tally_fault (tally_nature ts v) (ts.step v.tally) (passes v.only) (ts.state v.tally) flow
            ∙ ap (λ o. option_map stage.Point (option_map (λ s. point_fault (up_to_limit s.0) s.1) o)) (sym (none-against (passes v.only) flow))
            ∙ ap (λ (y : Option (Formula Dim)). option_map stage.Point (rows.stop (rows.Judging (Admit (λ k p. None) y)) flow)) start.only_is
            ∙ ap (λ m. option_map stage.Point (rows.stop m flow)) (sym row.judges);
      }
      go (Gathers g) row (Collector c) start handed inner = absurd (true≢false (sym row.0.gathers ∙ streams))
      go (Writes x) row (Writer v) start handed inner = record {
        inner = ap is_reading row.does;
        makes = λ flow. ap (λ t. made_of writer_work t flow) (writer-begins v x start) ∙ writer_gives x flow ∙ ap (λ m. flow_marks (rows.made m flow)) (sym row.filtering);
        fault = λ flow. ap (λ t. fault_on writer_work t flow) (writer-begins v x start) ∙ writer_fault x flow ∙ ap (λ m. option_map stage.Point (rows.stop m flow)) (sym row.filtering);
      }
      go form row w start handed inner = absurd start

  -- a work at its start holds nothing
  pub holds-nothing : (o : Options) (setting : Setting) (w : StageWork S K P Q) → IsAtStart bytes o setting w → holds_of bytes w [] ≡ true
  holds-nothing o setting w start = go (form_for o setting) w start
    where
      go : (form : StageForm) (w : StageWork S K P Q) → IsStarted bytes setting.dims form w → holds_of bytes w [] ≡ true
      go (Reads fields) (Reader r) start = refl
      go (Filters f) (Filter g) start = refl
      go (Plugs only) (Plug v) start = refl
      go (Tallies only) (Tally v) start = refl
      go (Gathers g) (Collector c) start = refl
      go (Writes x) (Writer v) start = start.holds
      go form w start = absurd start

  -- and keeps no views
  pub keeps-at-start : (o : Options) (setting : Setting) (w : StageWork S K P Q) → IsAtStart bytes o setting w → keeps_of w ≡ None
  keeps-at-start o setting w start = go (form_for o setting) w start
    where
      go : (form : StageForm) (w : StageWork S K P Q) → IsStarted bytes setting.dims form w → keeps_of w ≡ None
      go (Reads fields) (Reader r) start = refl
      go (Filters f) (Filter g) start = refl
      go (Plugs only) (Plug v) start = refl
      go (Tallies only) (Tally v) start = refl
      go (Gathers g) (Collector c) start = refl
      go (Writes x) (Writer v) start = refl
      go form w start = absurd start

  -- and has the device of its stage's role
  pub op-at-start : (o : Options) (setting : Setting) (w : StageWork S K P Q) → IsAtStart bytes o setting w → op_of w ≡ op_for (role_of o)
  op-at-start o setting w start = go (form_for o setting) (row-is o setting) w start
    where
      go : (form : StageForm) → IsRow form o setting → (w : StageWork S K P Q) → IsStarted bytes setting.dims form w → op_of w ≡ op_for (role_of o)
      go (Reads fields) row (Reader r) start = sym row.1
      go (Filters f) row (Filter g) start = sym (ap op_for row.does)
      go (Plugs only) row (Plug v) start = sym (ap op_for row.does)
      go (Tallies only) row (Tally v) start = sym (ap op_for row.does)
      go (Gathers g) row (Collector c) start = sym row.0.device
      go (Writes x) row (Writer v) start = sym (ap op_for row.does)
      go form row w start = absurd start

  -- its work is a leaf exactly where the stage reads
  reads-at-start : (o : Options) (setting : Setting) (w : StageWork S K P Q) → IsAtStart bytes o setting w → is_leaf w ≡ is_reading (role_of o)
  reads-at-start o setting w start = go (form_for o setting) (row-is o setting) w start
    where
      go : (form : StageForm) → IsRow form o setting → (w : StageWork S K P Q) → IsStarted bytes setting.dims form w → is_leaf w ≡ is_reading (role_of o)
      go (Reads fields) row (Reader r) start = sym row.0
      go (Filters f) row (Filter g) start = sym (ap is_reading row.does)
      go (Plugs only) row (Plug v) start = sym (ap is_reading row.does)
      go (Tallies only) row (Tally v) start = sym (ap is_reading row.does)
      go (Gathers g) row (Collector c) start = sym row.0.inner
      go (Writes x) row (Writer v) start = sym (ap is_reading row.does)
      go form row w start = absurd start

  -- so it is where its type is a reader's
  pub start-reads : (o : Options) (setting : Setting) (w : StageWork S K P Q) → IsAtStart bytes o setting w → is_leaf w ≡ names.is_reader (kind_of o)
  start-reads o setting w start = reads-at-start o setting w start ∙ same o
    where
      same : (o : Options) → is_reading (role_of o) ≡ names.is_reader (kind_of o)
      same (ReadersLas o) = refl
      same (WritersLas o) = writer-inner (is_numbered o.filename) o.filename
      same (WritersText o) = writer-inner (is_numbered o.filename) o.filename
      same o = refl

  -- a stage that needs whole views has a work that takes them
  pub collects-at-start : (o : Options) (setting : Setting) (w : StageWork S K P Q) → IsAtStart bytes o setting w → is_gathering (role_of o) ≡ true
      → (c : Collecting Making) × (m : Making) × (w ≡ Collector c) × HoldsNone m c × (form_for o setting ≡ Gathers m)
  collects-at-start o setting w start gathers = go (form_for o setting) refl (row-is o setting) w start
    where
      not-reading : (r : Role) → is_reading r ≡ true → is_gathering r ≡ true → ⊥
      not-reading (role.Reads name) a b = absurd (true≢false (sym b))
      not-reading role.Gathers a b = absurd (true≢false (sym a))
      not-reading (role.WritesEach name) a b = absurd (true≢false (sym a))
      not-reading r a b = absurd (true≢false (sym b))

      go : (form : StageForm) → form_for o setting ≡ form → IsRow form o setting → (w : StageWork S K P Q) → IsStarted bytes setting.dims form w
          → (c : Collecting Making) × (m : Making) × (w ≡ Collector c) × HoldsNone m c × (form_for o setting ≡ Gathers m)
      go (Reads fields) e row (Reader r) start = absurd (not-reading (role_of o) row.0 gathers)
      go (Filters f) e row (Filter h) start = absurd (true≢false (sym gathers ∙ ap is_gathering row.does))
      go (Plugs only) e row (Plug v) start = absurd (true≢false (sym gathers ∙ ap is_gathering row.does))
      go (Tallies only) e row (Tally v) start = absurd (true≢false (sym gathers ∙ ap is_gathering row.does))
      go (Gathers m) e row (Collector c) start = (c, m, refl, start, e)
      go (Writes x) e row (Writer v) start = absurd (true≢false (sym gathers ∙ ap is_gathering row.does))
      go form e row w start = absurd start

  -- and a work that takes them is that of a stage that needs them
  pub collects-gathers : (o : Options) (setting : Setting) (w : StageWork S K P Q) → IsAtStart bytes o setting w → IsCollecting w → is_gathering (role_of o) ≡ true
  collects-gathers o setting (Collector c) start collects = go (form_for o setting) (row-is o setting) start
    where
      go : (form : StageForm) → IsRow form o setting → IsStarted {S = S} {K = K} {P = P} {Q = Q} bytes setting.dims form (Collector c) → is_gathering (role_of o) ≡ true
      go (Gathers g) row start = row.0.gathers
      go form row start = absurd start
  collects-gathers o setting w start collects = absurd collects

  -- a writer writes what its stage does
  pub writing-at-start : (o : Options) (setting : Setting) (w : StageWork S K P Q) → IsAtStart bytes o setting w → (x : Writing) → form_for o setting ≡ Writes x → writing_of w ≡ Some x
  writing-at-start o setting w start x e = go w (subst (λ form. IsStarted bytes setting.dims form w) e start)
    where
      go : (w : StageWork S K P Q) → IsStarted bytes setting.dims (Writes x) w → writing_of w ≡ Some x
      go (Writer v) start = start.is
      go w start = absurd start

module _ {S K : Type 0} (P Q : Type 0) (bytes : K → Option (List ℕ)) where
  -- a reader takes the fields of its stage
  pub fields-at-start : (o : Options) (setting : Setting) (r : LasReader S) → IsAtStart {P = P} {Q = Q} bytes o setting (Reader r) → r.fields ≡ setting.fields
  fields-at-start o setting r start = go (form_for o setting) (row-is o setting) start
    where
      go : (form : StageForm) → IsRow form o setting → IsStarted {S = S} {K = K} {P = P} {Q = Q} bytes setting.dims form (Reader r) → r.fields ≡ setting.fields
      go (Reads fields) row start = start.1 ∙ row.2
      go form row start = absurd start

  -- a reader that gave nothing yet is the work of a stage that reads
  pub reader-start : (o : Options) (setting : Setting) (r : LasReader S) → is_reading (role_of o) ≡ true → r.progress ≡ Records 0 → r.fields ≡ setting.fields → IsAtStart {P = P} {Q = Q} bytes o setting (Reader r)
  reader-start o setting r reads start fields = go (form_for o setting) (row-is o setting) reads
    where
      go : (form : StageForm) → IsRow form o setting → is_reading (role_of o) ≡ true → IsStarted {S = S} {K = K} {P = P} {Q = Q} bytes setting.dims form (Reader r)
      go (Reads taken) row reads = (start, fields ∙ sym row.2)
      go (Filters f) row reads = absurd (true≢false (sym reads ∙ ap is_reading row.does))
      go (Plugs only) row reads = absurd (true≢false (sym reads ∙ ap is_reading row.does))
      go (Tallies only) row reads = absurd (true≢false (sym reads ∙ ap is_reading row.does))
      go (Gathers g) row reads = absurd (true≢false (sym reads ∙ row.0.inner))
      go (Writes x) row reads = absurd (true≢false (sym reads ∙ ap is_reading row.does))

-- ---- what writers write

-- a stage that writes is one whose work is made of a file
pub writes-form : (o : Options) (setting : Setting) → is_writing (role_of o) ≡ true → (x : Writing) × (form_for o setting ≡ Writes x)
writes-form o setting writes = go (form_for o setting) refl (row-is o setting)
  where
    not-both : (r : Role) → is_reading r ≡ true → is_writing r ≡ true → ⊥
    not-both (role.Reads name) a b = absurd (true≢false (sym b))
    not-both (role.Writes name) a b = absurd (true≢false (sym a))
    not-both r a b = absurd (true≢false (sym b))

    go : (form : StageForm) → form_for o setting ≡ form → IsRow form o setting → (x : Writing) × (form_for o setting ≡ Writes x)
    go (Reads fields) e row = absurd (not-both (role_of o) row.0 writes)
    go (Filters f) e row = absurd (true≢false (sym writes ∙ ap is_writing row.does))
    go (Plugs only) e row = absurd (true≢false (sym writes ∙ ap is_writing row.does))
    go (Tallies only) e row = absurd (true≢false (sym writes ∙ ap is_writing row.does))
    go (Gathers g) e row = absurd (true≢false (sym writes ∙ row.0.later))
    go (Writes x) e row = (x, e)

pub gather-row : (o : Options) (setting : Setting) (m : Making) → form_for o setting ≡ Gathers m → IsGatherRow m o setting
gather-row o setting m e = (subst (λ form. IsRow form o setting) e (row-is o setting)).0

pub each-row : (o : Options) (setting : Setting) (x : Writing) → form_for o setting ≡ Gathers (Each x) → IsEachRow x o setting
each-row o setting x e = (subst (λ form. IsRow form o setting) e (row-is o setting)).1

pub writer-row : (o : Options) (setting : Setting) (x : Writing) → form_for o setting ≡ Writes x → IsWriterRow x o setting
writer-row o setting x e = subst (λ form. IsRow form o setting) e (row-is o setting)

-- where its stage has no fault on a flow, a writer stops at none of its points
pub nowhere-is : (o : Options) (setting : Setting) (x : Writing) (flow : Flow Point) → form_for o setting ≡ Writes x → rows.fault_on (row_of o setting) flow ≡ None → stops_nowhere x (points flow) ≡ true
nowhere-is o setting x flow e sound = sound_nowhere x flow (ap (λ m. rows.stop m flow) (sym ((writer-row o setting x e).filtering)) ∙ sound)

-- a writer writes what its row writes, and so many files, by whether it writes a file of each view
wrote-by : (each : Bool) (name : List ℕ) (x : Writing) (row : Row) (taken given : Flow Point) → ((ps : List Point) → chosen x.only ps ≡ filter (row.writes) ps)
    → wrote_of (writes_as (role.writing_by each name) x) taken given ≡ wrote_with (role.writing_by each name) row taken given
wrote-by true name x row taken given chooses = ap (λ ps. Some (up_to_limit (length ps))) (chooses (all_of given.views))
wrote-by false name x row taken given chooses = ap (λ ps. Some (up_to_limit (length ps))) (chooses (points taken))

files-by : (each : Bool) (name : List ℕ) (x : Writing) (given : Flow Point) → files_of (writes_as (role.writing_by each name) x) given ≡ files_with (role.writing_by each name) given
files-by true name x given = refl
files-by false name x given = refl

-- so it is with every stage
pub wrote-is : (o : Options) (setting : Setting) (taken given : Flow Point) → wrote_of (form_for o setting) taken given ≡ wrote_with (role_of o) (row_of o setting) taken given
wrote-is (WritersLas o) setting taken given = wrote-by (is_numbered o.filename) o.filename _ (row_of (WritersLas o) setting) taken given (λ ps. refl)
wrote-is (WritersText o) setting taken given = wrote-by (is_numbered o.filename) o.filename _ (row_of (WritersText o) setting) taken given (λ ps. refl)
wrote-is o setting taken given = refl

pub files-are : (o : Options) (setting : Setting) (given : Flow Point) → files_of (form_for o setting) given ≡ files_with (role_of o) given
files-are (WritersLas o) setting given = files-by (is_numbered o.filename) o.filename _ given
files-are (WritersText o) setting given = files-by (is_numbered o.filename) o.filename _ given
files-are o setting given = refl
