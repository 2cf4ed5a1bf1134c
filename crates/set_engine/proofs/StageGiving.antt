-- What a stage gives on.
use Rattle.std.proofs.Common.{◌≡◌, ℕ, true, false, List, [], length, Option, Some, None, Result, Ok, Err, refl, ap, sym, subst, ◌∙◌, true≢false}
use Rattle.std.specs.Prelude.{option_map, IfOk}
use Rattle.std.proofs.lemmas.Option.{none-some}
use Rattle.answer_model.specs.Rows.{Row, made, stop}
use Rattle.answer_model.specs.Values.{value_of, wrote_with, files_with}
use Rattle.cloud_points.specs.Events.{is_device}
use Rattle.cloud_points.specs.Flows.{Flow, points}
use Rattle.cloud_points.specs.Marks.{flow_of, flow_marks}
use Rattle.cloud_points.specs.Queue.{up_to_limit}
use Rattle.cloud_points.specs.declared.faults.StageFault.TheVariants as stage
use Rattle.cloud_points.specs.declared.point.Point.{Point}
use Rattle.cloud_points.proofs.FlowLaws.{flow_of-flow_marks}
use Rattle.las_reader.specs.Files.{Las, las_with}
use Rattle.las_reader.specs.Flows.{las_flow, las_fault}
use Rattle.stage_kinds.specs.Reads.{tells_of, told_of, told_fault_of}
use Rattle.stage_kinds.specs.Stages.{files_by, holds_chosen, is_leaf, keeps_of, meaning_of, only_of, stops_nowhere, writes_of, writing_filter, writing_of, written_by}
use Rattle.stage_kinds.proofs.Keeping.{keeps-same}
use Rattle.stage_kinds.specs.Files.{chosen, count_of}
use Rattle.stage_kinds.specs.declared.file_form.Writing.{Writing}
use Rattle.stage_kinds.specs.declared.stage_work.StageWork.{StageWork}
use Rattle.stage_kinds.specs.declared.stage_work.StageWork.TheVariants.{Reader, Filter, Plug, Tally, Collector, Views, ViewFiles, Writer}
use Rattle.stage_kinds.specs.declared.writer_stage.WriterStage.{WriterStage}
use Rattle.stage_kinds.proofs.Streams.{sound_nowhere, written-count}
use Rattle.stage_kinds.proofs.Telling.{reader_starts}
use Rattle.stage_meanings.specs.Filtering.{filtered, filtered_stop}
use Rattle.stage_options.specs.Roles.{Role}
use Rattle.plug_stages.specs.declared.filter.PlugFilter as plug_type
use Rattle.plug_stages.specs.declared.tally.PlugTally as tally_type
use Rattle.stage_forms.proofs.Told.{silent-says}
use Rattle.stage_kinds.specs.Held.{tally_in}
use Rattle.set_engine.specs.Fits.{IsFor, IsWriting, HasFile}
use Rattle.set_engine.specs.Given.{HoldsTaken, IsGivenBy, fault_of, kept_after}
use Rattle.set_engine.specs.declared.output.StageOutput.{StageOutput}

-- ---- writers

pub no_stop : {A B : Type 0} (f : A → B) (o : Option A) → option_map f o ≡ None → o ≡ None
no_stop f None e = refl
no_stop f (Some s) e = absurd cc

-- before its first point it wrote none
begun-with : {K : Type 0} (bytes : K → Option (List ℕ)) (w : WriterStage K) → holds_chosen bytes w [] ≡ true → count_of w.file ≡ 0
begun-with bytes w holds = written-count w bytes [] holds refl

pub writer-given : {S K P Q : Type 0} (bytes : K → Option (List ℕ)) (fs : plug_type.Ghosts P) (ts : tally_type.Ghosts Q) (role : Role) (row : Row) (taken given : Flow Point) (v w : WriterStage K) → IsWriting bytes role row v → writes_of w ≡ writes_of v
    → filtered_stop (writing_filter (writes_of v)) taken ≡ None → (holds_chosen bytes v [] ≡ true → holds_chosen bytes w (points taken) ≡ true) → HoldsTaken {S = S} {K = K} {P = P} {Q = Q} bytes fs ts role row taken given (Writer w)
writer-given {S} {K} {P} {Q} bytes fs ts role row taken given v w start same sound holds =
    let x = writes_of v in
    let held = holds start.holds in
    let nowhere : stops_nowhere x (points taken) ≡ true = sound_nowhere x taken sound in
    let only : only_of w ≡ only_of v = ap (λ (y : Writing). y.only) same in
    record {
      wrote = ap Some (written-count w bytes (points taken) held (ap (λ y. stops_nowhere y (points taken)) same ∙ nowhere)
          ∙ ap (λ o. up_to_limit (length (chosen o (points taken)))) only ∙ ap (λ ps. up_to_limit (length ps)) (start.chooses (points taken)))
          ∙ ap (λ r. wrote_with r row taken given) (sym start.does);
      held = λ y is. record { is = is; holds = held; nowhere = (let z : writes_of w ≡ y = cc in ap (λ u. stops_nowhere u (points taken)) (sym z ∙ same) ∙ nowhere) };
      says = silent-says {S = S} {K = K} {P = P} {Q = Q} fs ts row taken (Writer w) start.silent refl;
    }

-- so it is with what it gave, and where it stopped
pub writer-gave : {S K P Q E : Type 0} (fs : plug_type.Ghosts P) (ts : tally_type.Ghosts Q) (sources : S → Option (List ℕ)) (sinks : K → Option (List ℕ)) (taken : Flow Point) (work : StageWork S K P Q) (v w : WriterStage K) (r : Result StageOutput E) → work ≡ Writer v → writes_of w ≡ writes_of v
    → IfOk r (λ given. is_device given.fault ≡ false → count_of v.file ≡ 0 → given.fault ≡ option_map stage.Point (filtered_stop (writing_filter (writes_of v)) taken))
    → IfOk r (λ given. is_device given.fault ≡ false → count_of v.file ≡ 0 → given.views ≡ filtered (writing_filter (writes_of v)) taken)
    → IfOk r (λ given. given.fault ≡ None → holds_chosen sinks v [] ≡ true → holds_chosen sinks w (points taken) ≡ true)
    → IfOk r (λ given. is_device given.fault ≡ false → (role : Role) (row : Row) (las : Las) → IsFor sinks fs ts role row work → HasFile sources las work
    → IsGivenBy {S = S} {K = K} {P = P} {Q = Q} sinks fs ts role row las taken (Writer w) given)
writer-gave fs ts sources sinks taken work v w (Ok given) is same fault value holds = λ calm role row las start file. (
    let start : IsWriting sinks role row v = subst (IsFor sinks fs ts role row) is start in
    let x = writes_of v in
    let faults : fault_of role row las taken ≡ filtered_stop (writing_filter x) taken = ap (λ r. fault_of r row las taken) start.does ∙ ap (λ m. stop m taken) start.judges in
    let values : value_of role row las taken ≡ filtered (writing_filter x) taken = ap (λ r. value_of r row las taken) start.does ∙ ap (λ m. made m taken) start.judges in
    let begun = begun-with sinks v start.holds in
    record {
      fault = fault calm begun ∙ ap (option_map stage.Point) (sym faults);
      value = value calm begun ∙ sym values;
      files = ap (λ r. files_with r given.views) (sym start.does);
      sound = λ none. writer-given sinks fs ts role row taken given.views v w start same (no_stop stage.Point (filtered_stop (writing_filter x) taken) (sym (fault calm begun) ∙ none)) (holds none);
    })
writer-gave fs ts sources sinks taken work v w (Err s) is same fault value holds = tt

-- ---- readers

-- a leaf writes nothing, and has no tally
leaf-silent : {S K P Q : Type 0} (ts : tally_type.Ghosts Q) (w : StageWork S K P Q) → is_leaf w ≡ true → tally_in ts w ≡ None
leaf-silent ts (Reader r) e = refl
leaf-silent ts (Views h) e = refl
leaf-silent ts (ViewFiles t) e = refl
leaf-silent ts (Filter f) e = refl
leaf-silent ts (Plug f) e = refl
leaf-silent ts (Tally f) e = absurd (true≢false (sym e))
leaf-silent ts (Collector c) e = refl
leaf-silent ts (Writer w) e = refl

leaf-writes : {S K P Q : Type 0} (w : StageWork S K P Q) → is_leaf w ≡ true → keeps_of w ≡ None → (writing_of w ≡ None) × (written_by w ≡ None) × (files_by w ≡ 0)
leaf-writes (Reader r) e none = (refl, refl, refl)
leaf-writes (Filter f) e none = absurd (true≢false (sym e))
leaf-writes (Plug f) e none = absurd (true≢false (sym e))
leaf-writes (Tally f) e none = absurd (true≢false (sym e))
leaf-writes (Collector c) e none = absurd (true≢false (sym e))
leaf-writes (Views h) e none = (refl, refl, refl)
leaf-writes (ViewFiles t) e none = absurd (none-some _ (sym none))
leaf-writes (Writer w) e none = absurd (true≢false (sym e))

-- it keeps what it kept
leaf-keeps : {S K P Q : Type 0} (fs : plug_type.Ghosts P) (ts : tally_type.Ghosts Q) (v w : StageWork S K P Q) (given : Flow Point) → is_leaf v ≡ true → meaning_of fs ts w ≡ meaning_of fs ts v → keeps_of w ≡ kept_after v given
leaf-keeps fs ts v w given a means = keeps-same fs ts w v means ∙ go v a
  where
    go : {S K P Q : Type 0} (v : StageWork S K P Q) → is_leaf v ≡ true → keeps_of v ≡ kept_after v given
    go (Reader r) e = refl
    go (Filter f) e = refl
    go (Plug f) e = refl
    go (Tally f) e = refl
    go (Collector c) e = absurd (true≢false (sym e))
    go (Views h) e = refl
    go (ViewFiles t) e = refl
    go (Writer x) e = refl

pub leaf-kept : {S K P Q E : Type 0} (fs : plug_type.Ghosts P) (ts : tally_type.Ghosts Q) (v w : StageWork S K P Q) (r : Result StageOutput E) → is_leaf v ≡ true → meaning_of fs ts w ≡ meaning_of fs ts v → IfOk r (λ given. keeps_of w ≡ kept_after v given.views)
leaf-kept fs ts v w (Ok given) a means = leaf-keeps fs ts v w given.views a means
leaf-kept fs ts v w (Err e) a means = tt

module _ {S K P Q : Type 0} (fs : plug_type.Ghosts P) (ts : tally_type.Ghosts Q) (sources : S → Option (List ℕ)) (sinks : K → Option (List ℕ)) (role : Role) (row : Row) (las : Las) (taken : Flow Point) where
  leaf-given : (v w : StageWork S K P Q) (given : StageOutput) → IsFor sinks fs ts role row v → HasFile sources las v → is_leaf v ≡ true → is_leaf w ≡ true → meaning_of fs ts w ≡ meaning_of fs ts v
      → (tells_of sources v ≡ true → told_of sources v ≡ flow_marks given.views) → (tells_of sources v ≡ true → told_fault_of sources v ≡ given.fault) → IsGivenBy sinks fs ts role row las taken w given
  leaf-given (Reader r) w given start file a b means gives says =
      let t = file r refl in
      let f = reader_starts {K = K} {P = P} {Q = Q} sources r t.file start.start t.told in
      let writes = leaf-writes w b (keeps-same fs ts w (Reader r) means) in
      let faults : fault_of role row las taken ≡ las_fault (las_with r.header r.fields t.file) = ap (λ r. fault_of r row las taken) start.does ∙ ap las_fault t.holds in
      record {
        fault = sym (says f.tells) ∙ f.fault ∙ ap (option_map stage.Point) (sym faults);
        value = sym (flow_of-flow_marks given.views) ∙ ap flow_of (sym (gives f.tells) ∙ f.told) ∙ flow_of-flow_marks (las_flow (las_with r.header r.fields t.file)) ∙ ap las_flow (sym t.holds)
            ∙ ap (λ r. value_of r row las taken) (sym start.does);
        files = writes.2 ∙ ap (λ r. files_with r given.views) (sym start.does);
        sound = λ none. record {
          wrote = writes.1 ∙ ap (λ r. wrote_with r row taken given.views) (sym start.does);
          held = λ x is. absurd (let none = sym (writes.0) ∙ is in cc);
          says = silent-says fs ts row taken w start.silent (leaf-silent ts w b);
        };
      }
  leaf-given (Filter f) w given start file a b means gives says = absurd (true≢false (sym a))
  leaf-given (Plug f) w given start file a b means gives says = absurd (true≢false (sym a))
  leaf-given (Tally f) w given start file a b means gives says = absurd (true≢false (sym a))
  leaf-given (Collector c) w given start file a b means gives says = absurd (true≢false (sym a))
  leaf-given (Views h) w given start file a b means gives says = absurd start
  leaf-given (ViewFiles t) w given start file a b means gives says = absurd start
  leaf-given (Writer x) w given start file a b means gives says = absurd (true≢false (sym a))

-- so it is with what it gave
pub leaf-gave : {S K P Q E : Type 0} (fs : plug_type.Ghosts P) (ts : tally_type.Ghosts Q) (sources : S → Option (List ℕ)) (sinks : K → Option (List ℕ)) (taken : Flow Point) (v w : StageWork S K P Q) (r : Result StageOutput E) → is_leaf v ≡ true → is_leaf w ≡ true → meaning_of fs ts w ≡ meaning_of fs ts v
    → IfOk r (λ given. is_device given.fault ≡ false → tells_of sources v ≡ true → told_of sources v ≡ flow_marks given.views)
    → IfOk r (λ given. is_device given.fault ≡ false → tells_of sources v ≡ true → told_fault_of sources v ≡ given.fault)
    → IfOk r (λ given. is_device given.fault ≡ false → (role : Role) (row : Row) (las : Las) → IsFor sinks fs ts role row v → HasFile sources las v → IsGivenBy sinks fs ts role row las taken w given)
leaf-gave fs ts sources sinks taken v w (Ok given) a b means gives says = λ calm role row las start file. leaf-given fs ts sources sinks role row las taken v w given start file a b means (gives calm) (says calm)
leaf-gave fs ts sources sinks taken v w (Err s) a b means gives says = tt
