-- What a stage's tally says behind a flow on which the stage has no fault, and what is remembered then of the caller's; a stage without
-- anything of the caller's says nothing.
use Rattle.std.proofs.Common.{◌≡◌, ℕ, false, List, Option, Some, None, refl, ap, sym, ◌∙◌, filter, true≢false}
use Rattle.std.specs.Prelude.{ℤ, option_map, length}
use Rattle.std.proofs.lemmas.Option.{none-some, same_Some}
use Rattle.answer_model.specs.Naming.{found_in}
use Rattle.answer_model.specs.Rows.{Row, Setting, remembered_by, row_of, said_by}
use Rattle.answer_model.specs.Rows as rows
use Rattle.answer_model.specs.Values.{said_with, shown_with}
use Rattle.cloud_points.specs.Clearing.{cleared}
use Rattle.cloud_points.specs.Flows.{Flow, points}
use Rattle.cloud_points.specs.Layouts.{holds}
use Rattle.cloud_points.specs.Meaning.{Meaning, Nature}
use Rattle.cloud_points.specs.Queue.{up_to_limit}
use Rattle.cloud_points.specs.declared.faults.StageFault.{StageFault}
use Rattle.cloud_points.specs.declared.point.Point.{Point}
use Rattle.expr_lang.specs.Formula.{Formula}
use Rattle.cloud_points.specs.declared.dims.Dim.{Dim}
use Rattle.network_theory.specs.Machine.{state_after}
use Rattle.plug_stages.proofs.PlugStreams.{plug_leaves}
use Rattle.plug_stages.proofs.Told.{told_behind}
use Rattle.plug_stages.specs.Folds.{last_view, state_behind}
use Rattle.plug_stages.specs.PlugSteps.{plug_spot_at}
use Rattle.plug_stages.specs.Tallied.{tallied}
use Rattle.plug_stages.specs.TallySteps.{passing, tally_spot_at}
use Rattle.plug_stages.specs.Works.{plug_meaning, plug_nature, plug_spot, tally_meaning, tally_nature, tally_spot}
use Rattle.plug_stages.specs.declared.filter.PlugFilter as plug_type
use Rattle.plug_stages.specs.declared.plug_work.PlugWork.{PlugWork}
use Rattle.plug_stages.specs.declared.spots.PlugSpot.{PlugSpot}
use Rattle.plug_stages.specs.declared.spots.TallySpot.{TallySpot}
use Rattle.plug_stages.specs.declared.tally.PlugTally as tally_type
use Rattle.plug_stages.specs.declared.tally_work.TallyWork.{TallyWork}
use Rattle.run_report.specs.declared.tally.TallyLine.{TallyLine}
use Rattle.stage_meanings.proofs.Through.{lifted_leaves}
use Rattle.stage_kinds.proofs.Natures.{silent}
use Rattle.stage_kinds.proofs.Streams.{tally_leaves}
use Rattle.stage_kinds.specs.Held.{tally_in}
use Rattle.stage_kinds.specs.Stages.{plugging_in, tallying_in, meaning_of, state_of, plug_work, tally_work}
use Rattle.stage_kinds.specs.declared.file_form.StageForm.{StageForm}
use Rattle.stage_kinds.specs.declared.file_form.StageForm.TheVariants.{Reads, Filters, Plugs, Tallies, Gathers, Writes}
use Rattle.stage_kinds.specs.declared.stage_work.StageState.{StageState}
use Rattle.stage_kinds.specs.declared.stage_work.StageState.TheVariants.{Plugging, Tallying}
use Rattle.stage_kinds.specs.declared.stage_work.StageWork.{StageWork}
use Rattle.stage_kinds.specs.declared.stage_work.StageWork.TheVariants.{Reader, Filter, Plug, Tally, Collector, Views, ViewFiles, Writer}
use Rattle.stage_meanings.specs.Conditions.{passes}
use Rattle.stage_meanings.specs.Filters.{first_unjudged, point_fault, refusal_of}
use Rattle.stage_options.specs.Roles.{plug_of, tally_of}
use Rattle.stage_options.specs.declared.options.Options.{Options}
use Rattle.stage_options.specs.declared.options.Options.TheVariants.{FiltersPlug, WritersTally}
use Rattle.stage_forms.proofs.Clearing.{none-against}
use Rattle.stage_forms.proofs.Works.{plug-begins, tally-begins}
use Rattle.stage_forms.proofs.Rowed.{IsRow, IsPlugRow, IsTallyRow, row-is}
use Rattle.stage_forms.specs.Later.{IsSilent, Remembers, Says, remembered_in}
use Rattle.stage_forms.specs.Starts.{IsAtStart, IsHandedIn, IsStarted, ShowsNone, TellsNone, form_for, shows_points}

-- one whose row says nothing
none-said : (row : Row) (taken : Flow Point) → row.says ≡ None → (shown_with row taken ≡ None) × (said_with row taken ≡ None)
none-said row taken e = (ap (option_map (λ _. up_to_limit (length (filter (row.writes) (points taken))))) e, ap (option_map (λ says. says (filter (row.writes) (points taken)))) e)

module _ {S K P Q : Type 0} (fs : plug_type.Ghosts P) (ts : tally_type.Ghosts Q) where
  -- a stage without a tally
  tells-none : (row : Row) (taken : Flow Point) (w : StageWork S K P Q) → row.says ≡ None → tally_in ts w ≡ None → Remembers fs ts row taken w → Says fs ts row taken w
  tells-none row taken w none without leaves = record {
    shown = (silent ts w without).0 ∙ sym (none-said row taken none).0;
    says = (silent ts w without).1 ∙ sym (none-said row taken none).1;
    leaves = leaves;
  }

  pub silent-says : (row : Row) (taken : Flow Point) (w : StageWork S K P Q) → IsSilent row → tally_in ts w ≡ None → Says fs ts row taken w
  silent-says row taken w quiet without = tells-none row taken w quiet.says without (λ s is. absurd (none-some s (sym (quiet.leaves taken) ∙ is)))

-- what a tally says under its name
abbrev line : List ℕ → List ℕ → TallyLine
line name text = record { name = name; text = text }

unmapped : {A B : Type 0} (f : A → B) (o : Option A) → option_map f o ≡ None → o ≡ None
unmapped f None e = refl
unmapped f (Some a) e = absurd (none-some _ (sym e))

-- a tally, by the state in which the flow left it
module _ {Q : Type 0} (ts : tally_type.Ghosts Q) (o : Options) (setting : Setting) (only : Option (Formula Dim)) (flow : Flow Point) (v : TallyWork Q)
    (row : IsTallyRow only o setting) (start : TellsNone only v) (named : found_in setting.handed.tallies (tally_of o) ≡ Some (tally_nature ts v)) (begins : ts.state v.tally ≡ ts.opening v.tally)
    (sound : rows.fault_on (row_of o setting) flow ≡ None) where
  abbrev passed : List Point
  passed = passing (passes v.only) (points flow)

  judged : first_unjudged (passes v.only) 0 (points flow) ≡ None
  judged = ap (λ l. first_unjudged (passes l) 0 (points flow)) start.only_is ∙ sym (none-against (passes only) flow)
      ∙ unmapped (λ s. point_fault (up_to_limit s.0) s.1) (refusal_of (λ k p. None) (passes only) flow) (ap (λ m. rows.stop m flow) (sym row.judges) ∙ sound)

  chosen-are : filter ((row_of o setting).writes) (points flow) ≡ passed
  chosen-are = row.shows (points flow) ∙ ap (λ l. passing (passes l) (points flow)) (sym start.only_is)

  -- what the tally remembers then
  abbrev remembered : List ℤ
  remembered = tallied (ts.step v.tally) (ts.state v.tally) passed

  remembered-is : remembered ≡ state_behind (tally_nature ts v).step (tally_nature ts v).opening (filter ((row_of o setting).writes) (points flow))
  remembered-is = sym (told_behind ts v.place v.tally (ts.state v.tally) passed) ∙ ap (λ s. state_behind (tally_nature ts v).step s passed) begins
      ∙ ap (λ ps. state_behind (tally_nature ts v).step (ts.opening v.tally) ps) (sym chosen-are)

  ended : (t : StageState) → t ≡ state_after (tally_work (tally_meaning ts v)) (Tallying (tally_spot ts v)) flow
      → tallying_in t ≡ Some (tally_spot_at (length (points flow)) (length passed) remembered)
  ended t e = ap tallying_in (e ∙ ap (λ t. state_after (tally_work (tally_meaning ts v)) (Tallying t) flow) (tally-begins ts v only start)
      ∙ tally_leaves (tally_nature ts v) (ts.step v.tally) (passes v.only) (ts.state v.tally) flow judged)

  row-says : (row_of o setting).says ≡ Some (said_by (tally_nature ts v))
  row-says = row.says (tally_nature ts v) named

  tally-says : {S K P : Type 0} (fs : plug_type.Ghosts P) (w : StageWork S K P Q) → state_of fs ts w ≡ state_after (tally_work (tally_meaning ts v)) (Tallying (tally_spot ts v)) flow → tally_in ts w ≡ Some (tally_nature ts v)
      → Says fs ts (row_of o setting) flow w
  tally-says fs (Tally u) e same =
      let spot : tally_spot ts u ≡ tally_spot_at (length (points flow)) (length passed) remembered = same_Some _ _ (ended (Tallying (tally_spot ts u)) e) in
      let nature : tally_nature ts u ≡ tally_nature ts v = same_Some _ _ same in
      record {
        shown = ap (λ (t : TallySpot). Some t.shown) spot ∙ ap (λ (ps : List Point). Some (up_to_limit (length ps))) (sym chosen-are)
            ∙ sym (ap (option_map (λ _. up_to_limit (length (filter ((row_of o setting).writes) (points flow))))) row-says);
        says = ap (λ (n : Nature Point). Some (line n.called (n.text (ts.state u.tally)))) nature
            ∙ ap (λ (t : TallySpot). Some (line (ts.called v.tally) (ts.text v.tally t.remembered))) spot
            ∙ ap (λ (r : List ℤ). Some (line (ts.called v.tally) (ts.text v.tally r))) remembered-is
            ∙ sym (ap (option_map (λ says. says (filter ((row_of o setting).writes) (points flow)))) row-says);
        leaves = λ s is. ap (λ (t : TallySpot). Some t.remembered) spot ∙ ap Some (remembered-is ∙ ap (state_behind (tally_nature ts v).step (ts.opening v.tally)) (row.shows (points flow)))
            ∙ sym (row.leaves (tally_nature ts v) named flow) ∙ is;
      }
  tally-says fs (Reader r) e same = absurd (none-some _ same)
  tally-says fs (Filter f) e same = absurd (none-some _ same)
  tally-says fs (Plug u) e same = absurd (none-some _ same)
  tally-says fs (Collector c) e same = absurd (none-some _ same)
  tally-says fs (Views h) e same = absurd (none-some _ same)
  tally-says fs (ViewFiles t) e same = absurd (none-some _ same)
  tally-says fs (Writer u) e same = absurd (none-some _ same)

-- a filter likewise
module _ {P : Type 0} (fs : plug_type.Ghosts P) (o : Options) (setting : Setting) (only : Option (Formula Dim)) (flow : Flow Point) (v : PlugWork P)
    (row : IsPlugRow only o setting) (start : ShowsNone only setting.dims v) (named : found_in setting.handed.filters (plug_of o) ≡ Some (plug_nature fs v))
    (sound : rows.fault_on (row_of o setting) flow ≡ None) where
  judges : first_unjudged (passes v.only) 0 (points flow) ≡ None
  judges = ap (λ l. first_unjudged (passes l) 0 (points flow)) start.only_is
      ∙ unmapped (λ s. point_fault (up_to_limit s.0) s.1) (first_unjudged (passes only) 0 (points flow))
      (ap (λ m. rows.stop m flow) (sym (row.folds (plug_nature fs v) named)) ∙ sound)

  abbrev stage : Meaning PlugSpot Point StageFault
  stage = plug_meaning fs v

  left : (s : List ℤ) → (row_of o setting).leaves flow ≡ Some s → (state_after stage (plug_spot_at 0 (fs.state v.plug)) flow).remembered ≡ s
  left s is = go (last_view flow.views flow.open_view) refl (sym (row.leaves (plug_nature fs v) named flow) ∙ is)
    where
      go : (o : Option (List Point)) → last_view flow.views flow.open_view ≡ o → option_map (remembered_by (plug_nature fs v) only) o ≡ Some s
          → (state_after stage (plug_spot_at 0 (fs.state v.plug)) flow).remembered ≡ s
      go None last is = absurd (none-some s is)
      go (Some view) last is =
          plug_leaves (plug_nature fs v) (fs.opening v.plug) (fs.step v.plug) (cleared (holds v.layout)) (passes v.only) (fs.state v.plug) flow view judges last
          ∙ ap (λ l. remembered_by (plug_nature fs v) l view) start.only_is ∙ same_Some _ _ is

  pub plug-remembers : {S K Q : Type 0} (ts : tally_type.Ghosts Q) (w : StageWork S K P Q) → state_of fs ts w ≡ state_after (plug_work stage) (Plugging (plug_spot fs v)) flow
      → Remembers fs ts (row_of o setting) flow w
  plug-remembers ts w e s is =
      ap remembered_in (e ∙ ap (λ t. state_after (plug_work stage) (Plugging t) flow) (plug-begins fs v only setting.dims start)
      ∙ lifted_leaves stage plugging_in Plugging (λ t. refl) (plug_spot_at 0 (fs.state v.plug)) flow) ∙ ap Some (left s is)

-- the row of any other stage says nothing
pub silent-row : (o : Options) (setting : Setting) → shows_points (form_for o setting) ≡ false → IsSilent (row_of o setting)
silent-row (FiltersPlug o) setting e = absurd (true≢false e)
silent-row (WritersTally o) setting e = absurd (true≢false e)
silent-row o setting e = record { says = refl; leaves = λ flow. refl }

module _ {S K P Q : Type 0} (fs : plug_type.Ghosts P) (ts : tally_type.Ghosts Q) (bytes : K → Option (List ℕ)) where
  -- a work that had no turn yet, and the same work behind a flow
  pub told-is : (o : Options) (setting : Setting) (old new : StageWork S K P Q) (flow : Flow Point) → IsAtStart bytes o setting old → IsHandedIn fs ts o setting.handed old
      → state_of fs ts new ≡ state_after (meaning_of fs ts old) (state_of fs ts old) flow → tally_in ts new ≡ tally_in ts old → rows.fault_on (row_of o setting) flow ≡ None
      → Says fs ts (row_of o setting) flow new
  told-is o setting old new flow start handed left same sound = go (form_for o setting) refl (row-is o setting) old start handed left same
    where
      go : (form : StageForm) → form_for o setting ≡ form → IsRow form o setting → (old : StageWork S K P Q) → IsStarted bytes setting.dims form old → IsHandedIn fs ts o setting.handed old
          → state_of fs ts new ≡ state_after (meaning_of fs ts old) (state_of fs ts old) flow → tally_in ts new ≡ tally_in ts old → Says fs ts (row_of o setting) flow new
      go (Plugs only) e row (Plug v) start handed left same = tells-none fs ts (row_of o setting) flow new row.silent same (plug-remembers fs o setting only flow v row start handed sound ts new left)
      go (Tallies only) e row (Tally v) start handed left same = tally-says ts o setting only flow v row start handed.0 handed.1 sound fs new left same
      go (Reads fields) e row (Reader r) start handed left same = silent-says fs ts (row_of o setting) flow new (silent-row o setting (ap shows_points e)) same
      go (Filters f) e row (Filter g) start handed left same = silent-says fs ts (row_of o setting) flow new (silent-row o setting (ap shows_points e)) same
      go (Gathers g) e row (Collector c) start handed left same = silent-says fs ts (row_of o setting) flow new (silent-row o setting (ap shows_points e)) same
      go (Writes x) e row (Writer v) start handed left same = silent-says fs ts (row_of o setting) flow new (silent-row o setting (ap shows_points e)) same
      go form e row w start handed left same = absurd start
