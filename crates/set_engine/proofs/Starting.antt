-- Works that are evaluated one after the other.
use Rattle.std.proofs.Common.{◌≡◌, ℕ, true, false, List, slice_get, Option, Some, refl, ap, sym, subst, ◌∙◌, true≢false, arith}
use Rattle.set_engine.proofs.Lists.{some-at}
use Rattle.std.proofs.lemmas.Option.{slice_get_within}
use Rattle.answer_model.specs.Rows.{Setting, row_of}
use Rattle.answer_model.specs.Rows as rows
use Rattle.answer_model.specs.Values.{LasFile, Opened, fields_at, las_at, options_at, setting_at, stage_value}
use Rattle.file_devices.specs.declared.devices.Source as source
use Rattle.run_report.specs.declared.report.StageCount.{StageCount}
use Rattle.set_engine.proofs.Values.{AreAfter, AreEvaluated, FitRows}
use Rattle.stage_forms.specs.Starts.{AreTold, AreAtStart, HaveRead, IsAtStart, IsHandedIn, IsStarted, form_for, kept_for, shows_points}
use Rattle.las_reader.specs.Files.{las_with}
use Rattle.set_engine.specs.Fits.{HasFile, IsFor, IsMaking, IsShowing}
use Rattle.set_engine.specs.Given.{kept_after}
use Rattle.cloud_points.specs.Flows.{Flow}
use Rattle.cloud_points.specs.declared.point.Point.{Point}
use Rattle.stage_kinds.specs.declared.making.Making.{Making}
use Rattle.stage_kinds.specs.declared.making.Making.TheVariants.{Gathers as Made, WritesEach as Each}
use Rattle.stage_kinds.specs.Files.{chosen}
use Rattle.stage_kinds.specs.Makings.{made_by, fault_by, kept_by}
use Rattle.stage_kinds.specs.Stages.{is_leaf, writes_of, writing_filter}
use Rattle.stage_kinds.specs.declared.file_form.StageForm.{StageForm}
use Rattle.stage_kinds.specs.declared.file_form.StageForm.TheVariants.{Reads, Filters, Plugs, Tallies, Gathers, Writes}
use Rattle.stage_kinds.specs.declared.file_form.Writing.{Writing}
use Rattle.stage_kinds.specs.declared.stage_work.StageWork.{StageWork}
use Rattle.stage_kinds.specs.declared.stage_work.StageWork.TheVariants.{Reader, Filter, Plug, Tally, Collector, Writer}
use Rattle.stage_options.specs.Roles.{Role, role_of, is_gathering, is_reading}
use Rattle.stage_options.specs.Roles as role
use Rattle.stage_options.specs.declared.options.Options.{Options}
use Rattle.stage_options.specs.declared.stage.StageSpec.{StageSpec}
use Rattle.stage_forms.proofs.Works.{fields-at-start, inner-is, writing-at-start}
use Rattle.stage_forms.proofs.Rowed.{IsMakingRow, IsRow, row-is}
use Rattle.stage_forms.proofs.Told.{silent-row, told-is}
use Rattle.plug_stages.specs.declared.filter.PlugFilter as plug_type
use Rattle.plug_stages.specs.declared.tally.PlugTally as tally_type
use Rattle.stream_filters.specs.Kinds.{filtering_of}
use Rattle.stage_forms.specs.Later.{AreLater, CameToEnd, IsSilent}

reading-name : (r : Role) → is_reading r ≡ true → (name : List ℕ) × (r ≡ role.Reads name)
reading-name (role.Reads name) e = (name, refl)
reading-name role.Filters e = absurd (true≢false (sym e))
reading-name role.Gathers e = absurd (true≢false (sym e))
reading-name (role.WritesEach name) e = absurd (true≢false (sym e))
reading-name (role.Writes name) e = absurd (true≢false (sym e))

-- by the row of its stage it makes this
making : (o : Options) (setting : Setting) (m : Making) → IsMakingRow m o setting → IsMaking (role_of o) (row_of o setting) m
making o setting (Made g) row = row
making o setting (Each x) row = (row.name, row.does, row.chooses)

module _ {S K P Q : Type 0} (s : source.Ghosts S) (fs : plug_type.Ghosts P) (ts : tally_type.Ghosts Q) (bytes : K → Option (List ℕ)) (o : Options) (setting : Setting) where
  -- a work of the caller's at its start shows its points as its stage's row says
  shown : (w : StageWork S K P Q) → role_of o ≡ role.Filters → is_leaf w ≡ false → IsAtStart bytes o setting w → IsHandedIn fs ts o setting.handed w → IsShowing fs ts (role_of o) (row_of o setting) w
  shown w does inner start handed =
      let is = inner-is s bytes fs ts o setting w start handed inner (ap is_gathering does) in
      record {
        does = does;
        makes = is.makes;
        fault = is.fault;
        says = λ flow new left same sound. told-is fs ts bytes o setting w new flow start handed left same.1 sound;
      }

  -- a work at its start does what its stage's row says
  fits : (w : StageWork S K P Q) → IsAtStart bytes o setting w → IsHandedIn fs ts o setting.handed w → IsFor bytes fs ts (role_of o) (row_of o setting) w
  fits w start handed = go (form_for o setting) refl (row-is o setting) w start start handed
    where
      quiet : (form : StageForm) → form_for o setting ≡ form → shows_points form ≡ false → IsSilent (row_of o setting)
      quiet form e none = silent-row o setting (ap shows_points e ∙ none)

      go : (form : StageForm) → form_for o setting ≡ form → IsRow form o setting → (w : StageWork S K P Q) → IsStarted bytes setting.dims form w → IsAtStart bytes o setting w → IsHandedIn fs ts o setting.handed w
          → IsFor bytes fs ts (role_of o) (row_of o setting) w
      go (Reads fields) e row (Reader r) start at handed = let n = reading-name (role_of o) row.0 in record { name = n.0; does = n.1; start = start.0; silent = quiet (Reads fields) e refl }
      go (Filters f) e row (Filter g) start at handed = record { does = row.does; judges = row.filtering ∙ ap (λ h. rows.Judging (filtering_of h)) (sym start); silent = quiet (Filters f) e refl }
      go (Plugs only) e row (Plug v) start at handed = shown (Plug v) row.does refl at handed
      go (Tallies only) e row (Tally v) start at handed = shown (Tally v) row.does refl at handed
      go (Gathers m) e row (Collector c) start at handed = record {
        inner = row.0.inner;
        makes = λ flow. ap (λ x. made_by x flow) start.makes ∙ row.0.makes flow;
        fault = λ flow. ap (λ x. fault_by x flow) start.makes ∙ row.0.fault flow;
        writes = subst (IsMaking (role_of o) (row_of o setting)) (sym start.makes) (making o setting m row.1);
        silent = quiet (Gathers m) e refl;
      }
      go (Writes x) e row (Writer v) start at handed =
          let same : writes_of v ≡ x = (let i = start.is in cc) in
          record {
            name = row.name;
            does = row.does;
            judges = row.filtering ∙ ap (λ y. rows.Judging (writing_filter y)) (sym same);
            chooses = λ ps. ap (λ (y : Writing). chosen y.only ps) same ∙ row.chooses ps;
            holds = start.holds;
            silent = quiet (Writes x) e refl;
          }
      go form e row w start at handed = absurd start

module _ {S K P Q : Type 0} (bytes : K → Option (List ℕ)) where
  -- what it keeps of what its stage gives is what it is made of
  pub kept-starts : (o : Options) (setting : Setting) (w : StageWork S K P Q) (given : Flow Point) → IsAtStart bytes o setting w → kept_after w given ≡ kept_for (form_for o setting) given
  kept-starts o setting w given start = go (form_for o setting) w start
    where
      go : (form : StageForm) (w : StageWork S K P Q) → IsStarted bytes setting.dims form w → kept_after w given ≡ kept_for form given
      go (Reads fields) (Reader r) start = refl
      go (Filters f) (Filter g) start = refl
      go (Plugs only) (Plug v) start = refl
      go (Tallies only) (Tally v) start = refl
      go (Gathers m) (Collector c) start = ap (λ x. kept_by x given) start.makes
      go (Writes x) (Writer v) start = refl
      go form w start = absurd start

-- they hold their devices
pub are-later : {S K P Q : Type 0} (fs : plug_type.Ghosts P) (ts : tally_type.Ghosts Q) (faults : StageWork S K P Q → ℕ) (works new : List (StageWork S K P Q)) → AreAfter fs ts faults works new → AreLater fs ts faults works new
are-later fs ts faults works new after = record {
  count = after.count;
  op = λ i v w a b. (after.each i v w a b).op;
  later = λ i v w a b. (after.each i v w a b).later;
  same = λ i v w a b. (after.each i v w a b).holds;
}

module _ {S K P Q : Type 0} (s : source.Ghosts S) (fs : plug_type.Ghosts P) (ts : tally_type.Ghosts Q) (bytes : K → Option (List ℕ)) (stages : List StageSpec) (works : List (StageWork S K P Q)) (starts : AreAtStart bytes stages works) where
  read : (opened : Opened) → AreTold s works opened → HaveRead works opened
  read opened told i r e = ap (λ (x : LasFile). x.read) ((told i (Reader r) r e refl).holds)

  pub all-fit : FitRows s fs ts bytes stages works
  all-fit opened given i w e = fits s fs ts bytes (options_at stages i) (setting_at stages opened i) w (starts opened (read opened given.told) i w e) (given.handed i w e)

  -- what is told of a reader's file, as that of its points
  pub las-told : (opened : Opened) (i : ℕ) (v : StageWork S K P Q) → AreTold s works opened → slice_get works i ≡ Some v → HasFile s.bytes (las_at stages opened i) v
  las-told opened i v told at = λ r is.
      let t = told i v r at is in
      let start = subst (IsAtStart bytes (options_at stages i) (setting_at stages opened i)) is (starts opened (read opened told) i v at) in
      let taken = fields-at-start P Q bytes (options_at stages i) (setting_at stages opened i) r start in
      record { file = t.file; told = t.told; holds = ap (λ (x : LasFile). x.las (fields_at stages opened i)) t.holds ∙ ap (λ l. las_with r.header l t.file) (sym taken) }

  module _ (faults : StageWork S K P Q → ℕ) (new : List (StageWork S K P Q)) (after : AreAfter fs ts faults works new) where
    pub came : (opened : Opened) (counts : List StageCount) → AreTold s works opened → AreEvaluated bytes fs ts stages opened works new counts → CameToEnd bytes fs ts stages opened new counts
    came opened counts told c = record {
      sound = c.sound;
      counted = c.counted;
      held = λ i w e x is.
          let v = some-at works i (let a = slice_get_within new i w e in let b = after.count in omega (arith, a, b)) in
          let start = starts opened (read opened told) i v.0 v.1 in
          c.held i w e x ((after.each i v.0 w v.1 e).writing ∙ writing-at-start s bytes (options_at stages i) (setting_at stages opened i) v.0 start x is);
      keeps = λ i w e.
          let v = some-at works i (let a = slice_get_within new i w e in let b = after.count in omega (arith, a, b)) in
          c.keeps i v.0 w v.1 e ∙ kept-starts bytes (options_at stages i) (setting_at stages opened i) v.0 (stage_value stages opened i) (starts opened (read opened told) i v.0 v.1);
      leaves = c.leaves;
    }
