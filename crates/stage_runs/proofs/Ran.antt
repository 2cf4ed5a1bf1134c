-- The node of a stage ends as the stage's value says.
use Rattle.std.proofs.Common.{◌≡◌, ◌⊎◌, ℕ, Bool, true, false, true≢false, cond, List, map, Option, Some, None, refl, ap, sym, subst, ◌∙◌, inl, inr}
use Rattle.std.specs.Prelude.{slice_get, option_map, length}
use Rattle.std.proofs.lemmas.Option.{none-some, same_Some}
use Rattle.file_devices.specs.declared.devices.Source as source
use Rattle.file_devices.specs.declared.devices.Sink as sink
use Rattle.cloud_points.specs.declared.faults.StageFault.TheVariants as stage
use Rattle.cloud_points.specs.Flows.{points}
use Rattle.cloud_points.specs.Marks.{flow_marks}
use Rattle.las_reader.specs.Flows.{las_flow, las_fault}
use Rattle.network_core.specs.declared.node.Node.{Node}
use Rattle.network_core.specs.Shown.{work_of}
use Rattle.network_solo.specs.Trees.{makes_of, Gave, Took, fault_of}
use Rattle.stage_kinds.specs.declared.stage_work.StageWork.{StageWork}
use Rattle.stage_kinds.specs.declared.file_form.StageForm.{StageForm}
use Rattle.stage_kinds.specs.declared.file_form.StageForm.TheVariants.{Reads, Filters, Plugs, Tallies, Gathers, Writes as Makes}
use Rattle.stage_kinds.specs.declared.file_form.Writing.{Writing}
use Rattle.stage_kinds.specs.Files.{chosen}
use Rattle.stage_kinds.specs.Held.{op_of, tally_in}
use Rattle.stage_kinds.specs.Stages.{HoldsAll, is_leaf, holds_of, stops_nowhere, writes_of, writing_of, written_by}
use Rattle.stage_kinds.specs.Reads.{told_of, told_fault_of}
use Rattle.stage_kinds.proofs.Keeping.{keeps-same, wrote-none, no-files, one-file, wrote-each, files-each}
use Rattle.stage_kinds.proofs.Streams.{written-count}
use Rattle.view_works.specs.declared.collector.Collector.{Collector as Collecting}
use Rattle.stage_kinds.specs.declared.making.Making.{Making}
use Rattle.stage_kinds.specs.declared.making.Making.TheVariants.{Gathers as Made, WritesEach as Each}
use Rattle.stage_kinds.specs.Makings.{made_by, fault_by}
use Rattle.stage_kinds.specs.Stages.{files_by, keeps_of, meaning_of}
use Rattle.cloud_points.specs.declared.point.Point.{Point}
use Rattle.cloud_points.specs.Queue.{up_to_limit}
use Rattle.stage_options.specs.Roles.{Role, is_reading, is_gathering, is_writing}
use Rattle.stage_options.specs.Roles as role
use Rattle.cloud_points.specs.declared.faults.PointFault.{PointFault}
use Rattle.stage_kinds.specs.declared.stage_work.StageWork.TheVariants.{Reader, Filter, Plug, Tally, Collector, Views, ViewFiles, Writer}
use Rattle.stage_options.specs.declared.stage.StageSpec.{StageSpec}
use Rattle.answer_model.specs.Values.{LasFile, Opened, IsDown, options_at, op_for, role_at, row_at, setting_at, stage_value, stage_input, stage_fault, las_at}
use Rattle.answer_model.specs.Rows as rows
use Rattle.answer_model.proofs.Values.{value-input}
use Rattle.stage_forms.specs.Later.{Says}
use Rattle.stage_forms.specs.Starts.{HoldsNone, files_of, form_for, kept_for, HaveRead, IsAtStart, IsHandedIn, shows_points, wrote_of}
use Rattle.stage_runs.specs.Works.{as_works, AreNewStages, RunOn}
use Rattle.stage_runs.specs.Ran.{EndsAsStage}
use Rattle.stage_runs.proofs.Kept.{writing-kept}
use Rattle.stage_runs.proofs.Places.{mapped-at, map-at}
use Rattle.stage_forms.proofs.Works.{IsLeaf, IsInner, leaf-is, inner-is, holds-nothing, gather-row, keeps-at-start, op-at-start, writing-at-start, collects-at-start, writer-row, nowhere-is}
use Rattle.stage_forms.proofs.Rowed.{IsRow, row-is, reads-form}
use Rattle.stage_forms.proofs.Told.{silent-row, silent-says, told-is}
use Rattle.stage_kinds.proofs.Natures.{tallies-same}
use Rattle.plug_stages.specs.declared.filter.PlugFilter as plug_type
use Rattle.plug_stages.specs.declared.tally.PlugTally as tally_type

-- a writer that holds points and stops at none of them wrote those that it chose
wrote-all : {S K P Q : Type 0} (w : StageWork S K P Q) (bytes : K → Option (List ℕ)) (x : Writing) (ps : List Point) → writing_of w ≡ Some x → holds_of bytes w ps ≡ true → stops_nowhere x ps ≡ true
    → written_by w ≡ Some (up_to_limit (length (chosen x.only ps)))
wrote-all (Reader r) bytes x ps is holds nowhere = absurd (none-some x is)
wrote-all (Filter f) bytes x ps is holds nowhere = absurd (none-some x is)
wrote-all (Plug v) bytes x ps is holds nowhere = absurd (none-some x is)
wrote-all (Tally v) bytes x ps is holds nowhere = absurd (none-some x is)
wrote-all (Collector c) bytes x ps is holds nowhere = absurd (none-some x is)
wrote-all (Views h) bytes x ps is holds nowhere = absurd (none-some x is)
wrote-all (ViewFiles t) bytes x ps is holds nowhere = absurd (none-some x is)
wrote-all (Writer v) bytes x ps is holds nowhere = ap (λ n. Some n) (written-count v bytes ps holds (ap (λ y. stops_nowhere y ps) (same_Some (writes_of v) x is) ∙ nowhere))
    ∙ ap (λ (y : Writing). Some (up_to_limit (length (chosen y.only ps)))) (same_Some (writes_of v) x is)

-- a leaf has no tally
leaf-tallies : {S K P Q : Type 0} (ts : tally_type.Ghosts Q) (w : StageWork S K P Q) → is_leaf w ≡ true → tally_in ts w ≡ None
leaf-tallies ts (Reader r) l = refl
leaf-tallies ts (Filter f) l = refl
leaf-tallies ts (Plug v) l = refl
leaf-tallies ts (Tally v) l = absurd (true≢false (sym l))
leaf-tallies ts (Collector c) l = refl
leaf-tallies ts (Views h) l = refl
leaf-tallies ts (ViewFiles t) l = refl
leaf-tallies ts (Writer v) l = refl

no-point : (o : Option PointFault) → None ≡ option_map stage.Point o → o ≡ None
no-point None e = refl
no-point (Some f) e = cc

not-both : (r : Role) → is_reading r ≡ true → is_writing r ≡ true → ⊥
not-both (role.Reads name) r w = absurd (true≢false (sym w))
not-both (role.Writes name) r w = absurd (true≢false (sym r))
not-both does r w = absurd (true≢false (sym r))

-- a new node of each stage
module _ {S K P Q : Type 0} (s : source.Ghosts S) (k : sink.Ghosts K) (fs : plug_type.Ghosts P) (ts : tally_type.Ghosts Q) (stages : List StageSpec) (old : List (Node (StageWork S K P Q))) (new : AreNewStages s k fs ts stages old) where
  module _ (down : IsDown stages) (opened : Opened) (on : RunOn s fs ts stages old opened) where
    have-read : HaveRead (map work_of old) opened
    have-read i r e = let n = mapped-at work_of old i (Reader r) e in ap (λ (x : LasFile). x.read) (on.tell i n.0 r n.1 n.2).holds

    pub start-at : (i : ℕ) (n : Node (StageWork S K P Q)) → slice_get old i ≡ Some n → IsAtStart k.bytes (options_at stages i) (setting_at stages opened i) n.work
    start-at i n e = new.works opened have-read i n.work (map-at work_of old i n e)

    handed-at : (i : ℕ) (n : Node (StageWork S K P Q)) → slice_get old i ≡ Some n → IsHandedIn fs ts (options_at stages i) opened.handed n.work
    handed-at i n e = on.handed i n.work (map-at work_of old i n e)

    pub leaf-at : (i : ℕ) (n : Node (StageWork S K P Q)) → slice_get old i ≡ Some n → is_leaf n.work ≡ true → IsLeaf s (options_at stages i) (las_at stages opened i) n.work
    leaf-at i n e l = leaf-is s k.bytes (options_at stages i) (setting_at stages opened i) opened i n.work (start-at i n e) l (λ r w. on.tell i n r e w)

    pub inner-at : (i : ℕ) (n : Node (StageWork S K P Q)) → slice_get old i ≡ Some n → is_leaf n.work ≡ false → is_gathering (role_at stages i) ≡ false → IsInner fs ts (options_at stages i) (setting_at stages opened i) n.work
    inner-at i n e l streams = inner-is s k.bytes fs ts (options_at stages i) (setting_at stages opened i) n.work (start-at i n e) (handed-at i n e) l streams

    -- by whether it reads
    pub value-leaf : (i : ℕ) → is_reading (role_at stages i) ≡ true → stage_value stages opened i ≡ las_flow (las_at stages opened i)
    value-leaf i reads = value-input stages opened down i ∙ ap (λ b. cond b (las_flow (las_at stages opened i)) (rows.value_on (row_at stages opened i) (stage_input stages opened i))) reads

    pub value-inner : (i : ℕ) → is_reading (role_at stages i) ≡ false → stage_value stages opened i ≡ rows.value_on (row_at stages opened i) (stage_input stages opened i)
    value-inner i reads = value-input stages opened down i ∙ ap (λ b. cond b (las_flow (las_at stages opened i)) (rows.value_on (row_at stages opened i) (stage_input stages opened i))) reads

    -- it streams its value
    pub tells-value : (i : ℕ) (n : Node (StageWork S K P Q)) → slice_get old i ≡ Some n → is_leaf n.work ≡ true → told_of s.bytes n.work ≡ flow_marks (stage_value stages opened i)
    tells-value i n e l = let f = leaf-at i n e l in f.told ∙ ap flow_marks (sym (value-leaf i f.reads))

    pub makes-value : (i : ℕ) (n : Node (StageWork S K P Q)) → slice_get old i ≡ Some n → is_leaf n.work ≡ false → is_gathering (role_at stages i) ≡ false
        → makes_of (as_works s k fs ts) n.work (stage_input stages opened i) ≡ flow_marks (stage_value stages opened i)
    makes-value i n e l streams = let f = inner-at i n e l streams in f.makes (stage_input stages opened i) ∙ ap flow_marks (sym (value-inner i f.inner))

    -- the fault that it tells, or has on what the stage takes
    pub fault-at : (i : ℕ) (n : Node (StageWork S K P Q)) → slice_get old i ≡ Some n → is_gathering (role_at stages i) ≡ false
        → cond (is_leaf n.work) (told_fault_of s.bytes n.work) (fault_of (as_works s k fs ts) n.work (stage_input stages opened i)) ≡ option_map stage.Point (stage_fault stages opened i)
    fault-at i n was streams = by_leaf (is_leaf n.work) refl
      where
        by_leaf : (b : Bool) → is_leaf n.work ≡ b → cond b (told_fault_of s.bytes n.work) (fault_of (as_works s k fs ts) n.work (stage_input stages opened i)) ≡ option_map stage.Point (stage_fault stages opened i)
        by_leaf true l =
            let t = leaf-at i n was l in
            t.fault ∙ ap (λ b. option_map stage.Point (cond b (las_fault (las_at stages opened i)) (rows.fault_on (row_at stages opened i) (stage_input stages opened i)))) (sym t.reads)
        by_leaf false l =
            let t = inner-at i n was l streams in
            t.fault (stage_input stages opened i)
            ∙ ap (λ b. option_map stage.Point (cond b (las_fault (las_at stages opened i)) (rows.fault_on (row_at stages opened i) (stage_input stages opened i)))) (sym t.inner)

    -- where it took what the stage takes, it ends so
    pub ends-as : (i : ℕ) (n m : Node (StageWork S K P Q)) → slice_get old i ≡ Some n → is_gathering (role_at stages i) ≡ false → op_of m.work ≡ op_of n.work → meaning_of fs ts m.work ≡ meaning_of fs ts n.work
        → Gave (as_works s k fs ts) (stage_value stages opened i) m
        → (is_leaf n.work ≡ true → m.fault ≡ told_fault_of s.bytes n.work)
        → (is_leaf n.work ≡ false → Took (as_works s k fs ts) (stage_input stages opened i) n m)
        → EndsAsStage s k fs ts stages opened i m
    ends-as i n m was streams op means gave told took = record { gave = gave; fault = fault-is; holds = holds-so; wrote = wrote-so; says = says-so; files = files-so; keeps = keeps-so }
      where
        by_leaf : (b : Bool) → is_leaf n.work ≡ b → m.fault ≡ cond b (told_fault_of s.bytes n.work) (fault_of (as_works s k fs ts) n.work (stage_input stages opened i))
        by_leaf true l = told l
        by_leaf false l = (took l).fault

        fault-is : m.fault ≡ option_map stage.Point (stage_fault stages opened i)
        fault-is = by_leaf (is_leaf n.work) refl ∙ fault-at i n was streams

        sound-so : m.fault ≡ None → rows.fault_on (row_at stages opened i) (stage_input stages opened i) ≡ None ⊎ is_reading (role_at stages i) ≡ true
        sound-so sound = by_role (is_reading (role_at stages i)) refl
          where
            by_role : (b : Bool) → is_reading (role_at stages i) ≡ b → rows.fault_on (row_at stages opened i) (stage_input stages opened i) ≡ None ⊎ is_reading (role_at stages i) ≡ true
            by_role true e = inr e
            by_role false e = inl (no-point _ (sym sound ∙ fault-is ∙ ap (λ b. option_map stage.Point (cond b (las_fault (las_at stages opened i)) (rows.fault_on (row_at stages opened i) (stage_input stages opened i)))) e))

        holds-so : m.fault ≡ None → (writing : Writing) → form_for (options_at stages i) (setting_at stages opened i) ≡ Makes writing → HoldsAll k.bytes writing (points (stage_input stages opened i)) m.work
        holds-so sound writing is = by_kind (is_leaf n.work) refl
          where
            writes : is_writing (role_at stages i) ≡ true
            writes = ap is_writing ((writer-row (options_at stages i) (setting_at stages opened i) writing is).does)

            start : IsAtStart k.bytes (options_at stages i) (setting_at stages opened i) n.work
            start = start-at i n was

            by_kind : (b : Bool) → is_leaf n.work ≡ b → HoldsAll k.bytes writing (points (stage_input stages opened i)) m.work
            by_kind true l = absurd (not-both (role_at stages i) (leaf-at i n was l).reads writes)
            by_kind false l =
                let t = took l in
                record {
                  is = writing-kept fs ts n.work m.work (stage_input stages opened i) l t.state
                      ∙ writing-at-start s k.bytes (options_at stages i) (setting_at stages opened i) n.work start writing is;
                  holds = t.holds sound (holds-nothing s k.bytes (options_at stages i) (setting_at stages opened i) n.work start);
                  nowhere = nowhere-is (options_at stages i) (setting_at stages opened i) writing (stage_input stages opened i) is
                      (elim (sound-so sound) [ inl e ↦ e | inr e ↦ absurd (not-both (role_at stages i) e writes) ]);
                }

        -- a leaf has no tally, and any other work is behind what the stage takes
        says-so : m.fault ≡ None → Says fs ts (row_at stages opened i) (stage_input stages opened i) m.work
        says-so sound = by_kind (is_leaf n.work) refl
          where
            same : tally_in ts m.work ≡ tally_in ts n.work
            same = tallies-same fs ts m.work n.work means

            by_kind : (b : Bool) → is_leaf n.work ≡ b → Says fs ts (row_at stages opened i) (stage_input stages opened i) m.work
            by_kind true l = silent-says fs ts (row_at stages opened i) (stage_input stages opened i) m.work
                (silent-row (options_at stages i) (setting_at stages opened i) (ap shows_points (reads-form (options_at stages i) (setting_at stages opened i) (leaf-at i n was l).reads)))
                (same ∙ leaf-tallies ts n.work l)
            by_kind false l = told-is fs ts k.bytes (options_at stages i) (setting_at stages opened i) n.work m.work (stage_input stages opened i) (start-at i n was) (handed-at i n was) (took l).state same
                (elim (sound-so sound) [ inl e ↦ e | inr e ↦ absurd (true≢false (sym e ∙ (inner-at i n was l streams).inner)) ])

        form : StageForm
        form = form_for (options_at stages i) (setting_at stages opened i)

        device : op_of m.work ≡ op_for (role_at stages i)
        device = op ∙ op-at-start s k.bytes (options_at stages i) (setting_at stages opened i) n.work (start-at i n was)

        row : (f : StageForm) → form ≡ f → IsRow f (options_at stages i) (setting_at stages opened i)
        row f is = subst (λ g. IsRow g (options_at stages i) (setting_at stages opened i)) is (row-is (options_at stages i) (setting_at stages opened i))

        -- it keeps no views, since it didn't at its start
        none-kept : keeps_of m.work ≡ None
        none-kept = keeps-same fs ts m.work n.work means ∙ keeps-at-start s k.bytes (options_at stages i) (setting_at stages opened i) n.work (start-at i n was)

        keeps-so : keeps_of m.work ≡ kept_for form (stage_value stages opened i)
        keeps-so = none-kept ∙ sym (by_form form refl)
          where
            by_form : (f : StageForm) → form ≡ f → kept_for form (stage_value stages opened i) ≡ None
            by_form (Reads fields) is = ap (λ f. kept_for f (stage_value stages opened i)) is
            by_form (Filters g) is = ap (λ f. kept_for f (stage_value stages opened i)) is
            by_form (Plugs only) is = ap (λ f. kept_for f (stage_value stages opened i)) is
            by_form (Tallies only) is = ap (λ f. kept_for f (stage_value stages opened i)) is
            by_form (Makes x) is = ap (λ f. kept_for f (stage_value stages opened i)) is
            by_form (Gathers g) is = absurd (true≢false (sym (row (Gathers g) is).0.gathers ∙ streams))

        wrote-so : m.fault ≡ None → written_by m.work ≡ wrote_of form (stage_input stages opened i) (stage_value stages opened i)
        wrote-so sound = by_form form refl
          where
            by_form : (f : StageForm) → form ≡ f → written_by m.work ≡ wrote_of f (stage_input stages opened i) (stage_value stages opened i)
            by_form (Makes x) is = let all = holds-so sound x is in wrote-all m.work k.bytes x (points (stage_input stages opened i)) all.is all.holds all.nowhere
            by_form (Reads fields) is = wrote-none m.work (device ∙ (row (Reads fields) is).1) (λ e. absurd cc) none-kept
            by_form (Filters g) is = wrote-none m.work (device ∙ ap op_for (row (Filters g) is).does) (λ e. absurd cc) none-kept
            by_form (Plugs only) is = wrote-none m.work (device ∙ ap op_for (row (Plugs only) is).does) (λ e. absurd cc) none-kept
            by_form (Tallies only) is = wrote-none m.work (device ∙ ap op_for (row (Tallies only) is).does) (λ e. absurd cc) none-kept
            by_form (Gathers g) is = absurd (true≢false (sym (row (Gathers g) is).0.gathers ∙ streams))

        files-so : files_by m.work ≡ files_of form (stage_value stages opened i)
        files-so = by_form form refl
          where
            by_form : (f : StageForm) → form ≡ f → files_by m.work ≡ files_of f (stage_value stages opened i)
            by_form (Makes x) is = one-file m.work (device ∙ ap op_for (row (Makes x) is).does)
            by_form (Reads fields) is = no-files m.work (device ∙ (row (Reads fields) is).1) (λ e. absurd cc) none-kept
            by_form (Filters g) is = no-files m.work (device ∙ ap op_for (row (Filters g) is).does) (λ e. absurd cc) none-kept
            by_form (Plugs only) is = no-files m.work (device ∙ ap op_for (row (Plugs only) is).does) (λ e. absurd cc) none-kept
            by_form (Tallies only) is = no-files m.work (device ∙ ap op_for (row (Tallies only) is).does) (λ e. absurd cc) none-kept
            by_form (Gathers g) is = absurd (true≢false (sym (row (Gathers g) is).0.gathers ∙ streams))

    -- the value of a stage that needs whole views is what it makes of those that it takes, and so is its fault
    pub gathers-row : (i : ℕ) (n : Node (StageWork S K P Q)) → slice_get old i ≡ Some n → is_gathering (role_at stages i) ≡ true
        → (c : Collecting Making) × (m : Making) × (n.work ≡ Collector c) × HoldsNone m c × (form_for (options_at stages i) (setting_at stages opened i) ≡ Gathers m)
    gathers-row i n e gathers = collects-at-start s k.bytes (options_at stages i) (setting_at stages opened i) n.work (start-at i n e) gathers

    pub gathers-value : (i : ℕ) (m : Making) → form_for (options_at stages i) (setting_at stages opened i) ≡ Gathers m → stage_value stages opened i ≡ made_by m (stage_input stages opened i)
    gathers-value i m form = let row = gather-row (options_at stages i) (setting_at stages opened i) m form in value-inner i row.inner ∙ sym (row.makes (stage_input stages opened i))

    pub gathers-fault : (i : ℕ) (m : Making) → form_for (options_at stages i) (setting_at stages opened i) ≡ Gathers m → stage_fault stages opened i ≡ fault_by m (stage_input stages opened i)
    gathers-fault i m form = let row = gather-row (options_at stages i) (setting_at stages opened i) m form in
        ap (λ b. cond b (las_fault (las_at stages opened i)) (rows.fault_on (row_at stages opened i) (stage_input stages opened i))) row.inner ∙ sym (row.fault (stage_input stages opened i))

    -- a leaf that gave its value, had its fault and keeps what it writes ends so
    pub held-ends : (i : ℕ) (n m : Node (StageWork S K P Q)) → slice_get old i ≡ Some n → is_gathering (role_at stages i) ≡ true → op_of m.work ≡ None → tally_in ts m.work ≡ None
        → Gave (as_works s k fs ts) (stage_value stages opened i) m → m.fault ≡ option_map stage.Point (stage_fault stages opened i)
        → keeps_of m.work ≡ kept_for (form_for (options_at stages i) (setting_at stages opened i)) (stage_value stages opened i) → EndsAsStage s k fs ts stages opened i m
    held-ends i n m was gathers op without gave fault keeps =
        let row = gathers-row i n was gathers in
        record {
          gave = gave;
          fault = fault;
          holds = λ sound writing is. absurd (true≢false (sym gathers ∙ ap is_gathering ((writer-row (options_at stages i) (setting_at stages opened i) writing is).does)));
          wrote = λ sound. wrote-so row.1 row.4;
          says = λ sound. silent-says fs ts (row_at stages opened i) (stage_input stages opened i) m.work (silent-row (options_at stages i) (setting_at stages opened i) (ap shows_points row.4)) without;
          files = files-so row.1 row.4;
          keeps = keeps;
        }
      where
        form : StageForm
        form = form_for (options_at stages i) (setting_at stages opened i)

        wrote-so : (making : Making) → form ≡ Gathers making → written_by m.work ≡ wrote_of form (stage_input stages opened i) (stage_value stages opened i)
        wrote-so (Made g) is = wrote-none m.work op (λ e. absurd cc) (keeps ∙ ap (λ f. kept_for f (stage_value stages opened i)) is)
            ∙ sym (ap (λ f. wrote_of f (stage_input stages opened i) (stage_value stages opened i)) is)
        wrote-so (Each x) is = wrote-each m.work x (stage_value stages opened i) (keeps ∙ ap (λ f. kept_for f (stage_value stages opened i)) is)
            ∙ sym (ap (λ f. wrote_of f (stage_input stages opened i) (stage_value stages opened i)) is)

        files-so : (making : Making) → form ≡ Gathers making → files_by m.work ≡ files_of form (stage_value stages opened i)
        files-so (Made g) is = no-files m.work op (λ e. absurd cc) (keeps ∙ ap (λ f. kept_for f (stage_value stages opened i)) is)
            ∙ sym (ap (λ f. files_of f (stage_value stages opened i)) is)
        files-so (Each x) is = files-each m.work x (stage_value stages opened i) (keeps ∙ ap (λ f. kept_for f (stage_value stages opened i)) is)
            ∙ sym (ap (λ f. files_of f (stage_value stages opened i)) is)
