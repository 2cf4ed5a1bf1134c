-- Works of the caller's: what they hold and write, and what their stages give.
use Rattle.std.proofs.Common.{◌≡◌, ℕ, Bool, true, false, List, Option, Some, None, Result, Ok, Err, is_some, refl, ap, sym, ◌∙◌, true≢false, arith}
use Rattle.std.specs.Prelude.{option_map, IfOk, OnOk}
use Rattle.std.proofs.lemmas.Option.{none-some}
use Rattle.answer_model.specs.Rows.{Row, value_on}
use Rattle.answer_model.specs.Rows as rows
use Rattle.answer_model.specs.Values.{value_of, wrote_with, files_with}
use Rattle.cloud_points.specs.Events.{is_device, IsOf}
use Rattle.cloud_points.specs.Flows.{Flow}
use Rattle.cloud_points.specs.Marks.{flow_of, flow_marks}
use Rattle.cloud_points.specs.Meaning.{Meaning}
use Rattle.cloud_points.specs.declared.faults.StageFault.{StageFault}
use Rattle.cloud_points.specs.declared.faults.StageFault.TheVariants as stage
use Rattle.cloud_points.specs.declared.point.Point.{Point}
use Rattle.cloud_points.proofs.FlowLaws.{flow_of-flow_marks}
use Rattle.file_devices.specs.declared.devices.Op.{Op}
use Rattle.las_reader.specs.Files.{Las}
use Rattle.network_theory.specs.Machine.{fault_on, made_of, state_after}
use Rattle.plug_stages.specs.declared.filter.PlugFilter as plug_type
use Rattle.plug_stages.specs.declared.tally.PlugTally as tally_type
use Rattle.stage_kinds.proofs.Keeping.{keeps-same}
use Rattle.stage_kinds.proofs.Natures.{same-held}
use Rattle.stage_kinds.specs.Held.{faults_of, op_of}
use Rattle.stage_kinds.specs.Stages.{files_by, is_leaf, is_short, keeps_of, meaning_of, state_of, writing_of, written_by}
use Rattle.stage_kinds.specs.declared.stage_work.StageState.{StageState}
use Rattle.stage_kinds.specs.declared.stage_work.StageWork.{StageWork}
use Rattle.stage_kinds.specs.declared.stage_work.StageWork.TheVariants.{Reader, Filter, Plug, Tally, Collector, Views, ViewFiles, Writer}
use Rattle.stage_meanings.specs.Filtering.{Admit, By, Filtering, Merge, filter_meaning}
use Rattle.stage_options.specs.Roles.{Role}
use Rattle.stream_filters.specs.Kinds.{filtering_of}
use Rattle.set_engine.specs.Fits.{HasFile, IsFor, IsShowing}
use Rattle.set_engine.specs.Given.{IsAfter, IsGivenBy, fault_of, kept_after}
use Rattle.set_engine.specs.Stops.{IsCaused}
use Rattle.set_engine.specs.declared.output.StageOutput.{StageOutput}
use Rattle.set_engine.proofs.After.{caused-by}
use Rattle.set_engine.proofs.StageGiving.{no_stop}

-- a caller handed in whose it is
abbrev pub is_of_caller : {S K P Q : Type 0} → plug_type.Ghosts P → tally_type.Ghosts Q → StageWork S K P Q → Bool
is_of_caller fs ts w = is_some (meaning_of fs ts w).nature

-- it takes points, has no device, takes no memory, and writes nothing
pub record IsBare {S K P Q : Type 0} (w : StageWork S K P Q) : Type 0 where
  pub inner : is_leaf w ≡ false
  pub ample : is_short w ≡ false
  pub op : op_of w ≡ None
  pub faults : (sources : S → ℕ) (sinks : K → ℕ) → faults_of sources sinks w ≡ 0
  pub writing : writing_of w ≡ None
  pub wrote : written_by w ≡ None
  pub files : files_by w ≡ 0
  pub kept : (given : Flow Point) → kept_after w given ≡ keeps_of w

-- nobody handed in a filter of the program's own
unnamed : (f : Filtering) → (filter_meaning f).nature ≡ None
unnamed (By rule only) = refl
unnamed (Admit reason only) = refl
unnamed Merge = refl

module _ {S K P Q : Type 0} (fs : plug_type.Ghosts P) (ts : tally_type.Ghosts Q) where
  pub bare : (w : StageWork S K P Q) → is_of_caller fs ts w ≡ true → IsBare w
  bare (Plug w) e = record { inner = refl; ample = refl; op = refl; faults = λ sources sinks. refl; writing = refl; wrote = refl; files = refl; kept = λ given. refl }
  bare (Tally w) e = record { inner = refl; ample = refl; op = refl; faults = λ sources sinks. refl; writing = refl; wrote = refl; files = refl; kept = λ given. refl }
  bare (Reader r) e = absurd (true≢false (sym e))
  bare (Filter f) e = absurd (true≢false (sym e ∙ ap is_some (unnamed (filtering_of f))))
  bare (Collector c) e = absurd (true≢false (sym e))
  bare (Views h) e = absurd (true≢false (sym e))
  bare (ViewFiles t) e = absurd (true≢false (sym e))
  bare (Writer v) e = absurd (true≢false (sym e))

  -- one that means the same is of the caller's, too
  pub stays-bare : (v w : StageWork S K P Q) → is_of_caller fs ts v ≡ true → meaning_of fs ts w ≡ meaning_of fs ts v → is_of_caller fs ts w ≡ true
  stays-bare v w of means = ap (λ (m : Meaning StageState Point StageFault). is_some m.nature) means ∙ of

  pub caller-after : (sources : S → ℕ) (sinks : K → ℕ) (v w : StageWork S K P Q) → is_of_caller fs ts v ≡ true → meaning_of fs ts w ≡ meaning_of fs ts v → IsAfter fs ts (faults_of sources sinks) v w
  caller-after sources sinks v w of means =
      let old = bare v of in
      let new = bare w (stays-bare v w of means) in
      record {
        op = new.op ∙ sym old.op;
        later = (let a = old.faults sources sinks in omega (arith, a));
        writing = new.writing ∙ sym old.writing;
        holds = same-held fs ts v w means;
      }

  pub caller-calm : (sources : S → ℕ) (sinks : K → ℕ) (v w : StageWork S K P Q) → is_of_caller fs ts v ≡ true → meaning_of fs ts w ≡ meaning_of fs ts v → faults_of sources sinks w ≡ faults_of sources sinks v
  caller-calm sources sinks v w of means = (bare w (stays-bare v w of means)).faults sources sinks ∙ sym ((bare v of).faults sources sinks)

  pub caller-kept : {E : Type 0} (v w : StageWork S K P Q) (r : Result StageOutput E) → is_of_caller fs ts v ≡ true → meaning_of fs ts w ≡ meaning_of fs ts v → IfOk r (λ given. keeps_of w ≡ kept_after v given.views)
  caller-kept v w (Ok given) of means = keeps-same fs ts w v means ∙ sym ((bare v of).kept given.views)
  caller-kept v w (Err e) of means = tt

  shows : (bytes : K → Option (List ℕ)) (role : Role) (row : Row) (v : StageWork S K P Q) → is_of_caller fs ts v ≡ true → IsFor bytes fs ts role row v → IsShowing fs ts role row v
  shows bytes role row (Plug w) e start = start
  shows bytes role row (Tally w) e start = start
  shows bytes role row (Reader r) e start = absurd (true≢false (sym e))
  shows bytes role row (Filter f) e start = absurd (true≢false (sym e ∙ ap is_some (unnamed (filtering_of f))))
  shows bytes role row (Collector c) e start = absurd (true≢false (sym e))
  shows bytes role row (Views h) e start = absurd (true≢false (sym e))
  shows bytes role row (ViewFiles t) e start = absurd (true≢false (sym e))
  shows bytes role row (Writer v) e start = absurd (true≢false (sym e))

  module _ (bytes : K → Option (List ℕ)) (taken : Flow Point) (v w : StageWork S K P Q) (of : is_of_caller fs ts v ≡ true) (means : meaning_of fs ts w ≡ meaning_of fs ts v) where
    caller-given : (role : Role) (row : Row) (las : Las) (given : StageOutput) → IsShowing fs ts role row v → flow_marks given.views ≡ made_of (meaning_of fs ts v) (state_of fs ts v) taken
        → given.fault ≡ fault_on (meaning_of fs ts v) (state_of fs ts v) taken → state_of fs ts w ≡ state_after (meaning_of fs ts v) (state_of fs ts v) taken → IsGivenBy bytes fs ts role row las taken w given
    caller-given role row las given start made fault left =
        let new = bare w (stays-bare v w of means) in
        let faults : given.fault ≡ option_map stage.Point (rows.fault_on row taken) = fault ∙ start.fault taken in
        record {
          fault = faults ∙ ap (λ r. option_map stage.Point (fault_of r row las taken)) (sym start.does);
          value = sym (flow_of-flow_marks given.views) ∙ ap flow_of (made ∙ start.makes taken) ∙ flow_of-flow_marks (value_on row taken) ∙ ap (λ r. value_of r row las taken) (sym start.does);
          sound = λ none. record {
            wrote = new.wrote ∙ ap (λ r. wrote_with r row taken given.views) (sym start.does);
            held = λ x is. absurd (none-some x (sym new.writing ∙ is));
            says = start.says taken w left (same-held fs ts v w means) (no_stop stage.Point (rows.fault_on row taken) (sym faults ∙ none));
          };
          files = new.files ∙ ap (λ r. files_with r given.views) (sym start.does);
        }

    pub caller-gave : {E : Type 0} (sources : S → Option (List ℕ)) (r : Result StageOutput E) → IfOk r (λ given. flow_marks given.views ≡ made_of (meaning_of fs ts v) (state_of fs ts v) taken)
        → IfOk r (λ given. given.fault ≡ fault_on (meaning_of fs ts v) (state_of fs ts v) taken) → OnOk r (state_of fs ts w ≡ state_after (meaning_of fs ts v) (state_of fs ts v) taken)
        → IfOk r (λ given. is_device given.fault ≡ false → (role : Role) (row : Row) (las : Las) → IsFor bytes fs ts role row v → HasFile sources las v → IsGivenBy bytes fs ts role row las taken w given)
    caller-gave sources (Ok given) made fault left = λ calm role row las start file. caller-given role row las given (shows bytes role row v of start) made fault left
    caller-gave sources (Err e) made fault left = tt

-- no device failed
pub none-caused : {E : Type 0} (op : Option Op) (before now : ℕ) (r : Result StageOutput E) → IfOk r (λ given. is_device given.fault ≡ false) → now ≡ before → IfOk r (λ given. IsCaused op before now given.fault)
none-caused op before now (Ok given) calm same = caused-by op before now given.fault (unnamed-op given.fault calm) (λ d. absurd (true≢false (sym d ∙ calm))) (λ d. same)
  where
    unnamed-op : (fault : Option StageFault) → is_device fault ≡ false → IsOf op fault
    unnamed-op None e = tt
    unnamed-op (Some (stage.Point f)) e = tt
    unnamed-op (Some (stage.Device o)) e = absurd (true≢false e)
none-caused op before now (Err e) calm same = tt
