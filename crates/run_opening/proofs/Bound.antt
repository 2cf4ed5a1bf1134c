-- The works of stages over their readers and forms, and names that are bound.
use Rattle.std.proofs.Common.{◌≡◌, ◌||◌, ℕ, Bool, true, false, true≢false, List, [], length, slice_get, is_some, Option, Some, None, refl, ap, sym, subst, ◌∙◌, arith}
use Rattle.std.specs.Prelude.{slice_index_or}
use Rattle.std.proofs.Math.Bool.{or-false}
use Rattle.std.proofs.lemmas.Option.{none-some, same_Some, slice_get_within, get_or_from_slice_get}
use Rattle.held_devices.proofs.Lists.{some_at}
use Rattle.cloud_points.specs.Layouts as laid
use Rattle.cloud_points.specs.declared.dims.Dim.{Dim}
use Rattle.cloud_points.specs.declared.layout.Layout.{Layout}
use Rattle.file_devices.specs.Named.{Names}
use Rattle.forward_rules.specs.Forwarded.{ReadFile}
use Rattle.file_devices.specs.declared.devices.Source as source
use Rattle.file_devices.specs.declared.devices.Sink as sink
use Rattle.las_reader.specs.declared.reader.LasReader.{LasReader}
use Rattle.stage_forms.specs.Below.{HaveReaders, Tells, read_of}
use Rattle.stage_kinds.specs.declared.file_form.StageForm.{StageForm}
use Rattle.stage_kinds.specs.declared.file_form.StageForm.TheVariants.{Reads, Filters, Plugs, Tallies, Gathers, Writes}
use Rattle.stage_kinds.specs.declared.stage_work.StageWork.{StageWork}
use Rattle.stage_kinds.specs.declared.stage_work.StageWork.TheVariants.{Reader, Filter, Plug, Tally, Collector, Views, ViewFiles, Writer}
use Rattle.stage_options.specs.Roles.{plug_of}
use Rattle.stage_options.specs.declared.options.Options.{Options}
use Rattle.stage_options.specs.declared.options.Options.TheVariants.{FiltersPlug}
use Rattle.stage_options.specs.declared.stage.StageSpec.{StageSpec}
use Rattle.run_report.specs.declared.refusal.Refusal.{Refusal}
use Rattle.run_report.specs.declared.refusal.Refusal.TheVariants as of
use Rattle.answer_model.proofs.Values.{fold-inputs}
use Rattle.answer_model.specs.Values.{Opened, IsDown, dims_at, dims_taken, dims_with, evaluated, fields_found, gives_dim, names_at, options_at, role_at, setting_at}
use Rattle.answer_model.specs.Runs.{AreRead, opened_in, unless_unbound, run_with, holds}
use Rattle.stage_forms.specs.Starts.{AreAtStart, AreHandedIn}
use Rattle.run_opening.specs.Begun.{AreOpened, AreBegun, AreForms, AreLayouts, AreNamesBound, FitStages, IsForm, IsLaidOut, IsUnbound, IsWork, over_files, read_with, reader_of}
use Rattle.run_outcome.specs.Cause.{CanBegin, IsCause, IsEarly}
use Rattle.run_outcome.specs.Least.{IsNamedBy}
use Rattle.run_opening.specs.Opening.{IsBeforePoints}
use Rattle.run_opening.specs.Ready.{AreReady}
use Rattle.run_outcome.proofs.Runs.{all-read}
use Rattle.run_opening.proofs.Opening.{are-read, have-readers}
use Rattle.plug_stages.specs.declared.filter.PlugFilter as plug_type
use Rattle.plug_stages.specs.declared.tally.PlugTally as tally_type
use Rattle.plug_stages.specs.Handed.{Handed}

-- the file that a reader's source tells is the one at its stage
tells-there : {S : Type 0} (s : source.Ghosts S) (handed : Handed) (m : Names) (stages : List StageSpec) (i : ℕ) (r : LasReader S) → Tells s (over_files (λ j. holds m j (role_at stages i))) i r → Tells s (opened_in handed m stages) i r
tells-there s handed m stages i r t = record { file = t.file; told = t.told; holds = t.holds }

-- a work with the file of a reader is a reader of that file
is-reader : {S K P Q : Type 0} (w : StageWork S K P Q) (r : LasReader S) → read_with (reader_of w) ≡ Some (read_of r) → (q : LasReader S) × (w ≡ Reader q) × (read_of q ≡ read_of r)
is-reader (Reader q) r e = (q, refl, same_Some (read_of q) (read_of r) e)
is-reader (Filter f) r e = absurd (none-some (read_of r) e)
is-reader (Plug v) r e = absurd (none-some (read_of r) e)
is-reader (Tally v) r e = absurd (none-some (read_of r) e)
is-reader (Collector c) r e = absurd (none-some (read_of r) e)
is-reader (Views h) r e = absurd (none-some (read_of r) e)
is-reader (ViewFiles t) r e = absurd (none-some (read_of r) e)
is-reader (Writer v) r e = absurd (none-some (read_of r) e)

-- the fault of the first stage whose options name another dimension is the answer, where all files are read
pub unbound-cause : {S : Type 0} (rose : Type 0) (handed : Handed) (map : Option Names) (stages : List StageSpec) (readers : List (Option (LasReader S))) (refusal : Refusal)
    → ((m : Names) → map ≡ Some m → AreRead m stages (length stages)) → ((m : Names) → map ≡ Some m → HaveReaders readers (opened_in handed m stages)) → IsUnbound stages readers refusal → IsCause rose handed map stages refusal
unbound-cause rose handed map stages readers of.Memory read have why = tt
unbound-cause rose handed map stages readers (of.Pipeline f) read have why = λ m e.
    let (i, found) = why (opened_in handed m stages) (have m e) in
    all-read handed m stages (read m e) ∙ ap (λ o. unless_unbound o (run_with (evaluated stages (opened_in handed m stages)))) found
unbound-cause rose handed map stages readers (of.Data i f) read have why = absurd why
unbound-cause rose handed map stages readers (of.Device p o) read have why = absurd why
unbound-cause rose handed map stages readers (of.Usage k) read have why = absurd why

pub unbound-early : {S : Type 0} (stages : List StageSpec) (readers : List (Option (LasReader S))) (refusal : Refusal) → IsUnbound stages readers refusal → IsEarly refusal
unbound-early stages readers of.Memory why = tt
unbound-early stages readers (of.Pipeline f) why = tt
unbound-early stages readers (of.Data i f) why = absurd why
unbound-early stages readers (of.Device p o) why = absurd why
unbound-early stages readers (of.Usage k) why = absurd why

pub unbound-before : {S : Type 0} (stages : List StageSpec) (readers : List (Option (LasReader S))) (refusal : Refusal) → IsUnbound stages readers refusal → IsBeforePoints refusal
unbound-before stages readers of.Memory why = tt
unbound-before stages readers (of.Pipeline f) why = tt
unbound-before stages readers (of.Data i f) why = absurd why
unbound-before stages readers (of.Device p o) why = tt
unbound-before stages readers (of.Usage k) why = tt

pub unbound-named : {S : Type 0} (stages : List StageSpec) (readers : List (Option (LasReader S))) (before after : Option (List ℕ)) (refusal : Refusal) → IsUnbound stages readers refusal → IsNamedBy stages before after refusal
unbound-named stages readers before after of.Memory why = tt
unbound-named stages readers before after (of.Pipeline f) why = tt
unbound-named stages readers before after (of.Data i f) why = absurd why
unbound-named stages readers before after (of.Device p o) why = absurd why
unbound-named stages readers before after (of.Usage k) why = tt

-- where the readers are opened over the map and all names are bound, a run can begin
pub can-begin : {S : Type 0} (s : source.Ghosts S) (handed : Handed) (map : Option Names) (stages : List StageSpec) (readers : List (Option (LasReader S))) → length readers ≡ length stages → AreOpened s map stages readers
    → AreNamesBound stages readers (length stages) → (m : Names) → map ≡ Some m → CanBegin handed m stages
can-begin s handed map stages readers count are bound m e =
    (are-read s map stages readers (length stages) (sym count) are m e, λ i lt. bound (opened_in handed m stages) (have-readers s map stages readers are handed m e) i lt)

-- a stage that shows its points to a filter of the caller adds no dimension
plug-adds : (names : List (List ℕ)) (o : Options) (read : ReadFile) (dim : Dim) → is_some (plug_of o) ≡ true → gives_dim names o (fields_found o read) dim ≡ false
plug-adds names (FiltersPlug p) read dim e = refl
plug-adds names o read dim e = absurd (true≢false (sym e))

-- so that what it gives on has the dimensions of what it takes
pub laid-out : (stages : List StageSpec) (opened : Opened) (i : ℕ) (form : StageForm) (layout : Layout) → IsDown stages → IsForm (options_at stages i) form
    → ((dim : Dim) → laid.holds layout dim ≡ dims_at stages opened i dim) → IsLaidOut layout (dims_taken stages opened i) form
laid-out stages opened i (Plugs only) layout down is holds = λ dim. holds dim
    ∙ ap (λ (f : Dim → Bool). f dim) (fold-inputs (λ d. false) (dims_with stages opened) stages down i)
    ∙ ap (λ b. dims_taken stages opened i dim || b) (plug-adds (names_at stages opened i) (options_at stages i) (opened.file i).read dim is.1)
    ∙ or-false (dims_taken stages opened i dim)
laid-out stages opened i (Reads fields) layout down is holds = tt
laid-out stages opened i (Filters f) layout down is holds = tt
laid-out stages opened i (Tallies only) layout down is holds = tt
laid-out stages opened i (Gathers m) layout down is holds = tt
laid-out stages opened i (Writes x) layout down is holds = tt

-- works over readers, forms and layouts are at their start
module _ {S K P Q : Type 0} (s : source.Ghosts S) (k : sink.Ghosts K) (map : Option Names) (stages : List StageSpec) (readers : List (Option (LasReader S))) (forms : List StageForm) (layouts : List Layout) (works : List (StageWork S K P Q))
    (count : length works ≡ length stages) (all_read : length readers ≡ length stages) (all_formed : length forms ≡ length stages) (all_laid : length layouts ≡ length stages)
    (begun : AreBegun s k map stages readers forms layouts works) where
  -- each of them
  pub work-at : (i : ℕ) (w : StageWork S K P Q) → slice_get works i ≡ Some w
      → (layout : Layout) × (slice_get layouts i ≡ Some layout) × IsWork s k map i (options_at stages i) (slice_index_or readers i None) (slice_index_or forms i (Reads [])) layout w
  work-at i w e =
      let inside = slice_get_within works i w e in
      let layout = some_at layouts i (omega (arith, count, all_laid, inside)) in
      (layout.0, layout.1, begun i w layout.0 e layout.1)

  pub are-at-start : IsDown stages → AreForms stages readers forms → FitStages stages forms → AreLayouts stages readers layouts → AreAtStart k.bytes stages works
  are-at-start down are fit laid opened have i w e =
      let inside = slice_get_within works i w e in
      let form = some_at forms i (omega (arith, count, all_formed, inside)) in
      let here : slice_index_or forms i (Reads []) ≡ form.0 = get_or_from_slice_get forms i form.0 (Reads []) form.1 in
      let at = work-at i w e in
      at.2.start (setting_at stages opened i) (here ∙ are opened have_readers i form.0 form.1)
      (subst (IsLaidOut at.0 (dims_taken stages opened i)) (sym here) (laid-out stages opened i form.0 at.0 down (fit i form.0 form.1) (laid opened have_readers i at.0 at.1)))
    where
      have_readers : HaveReaders readers opened
      have_readers j r f =
          let there = slice_get_within readers j (Some r) f in
          let v = some_at works j (omega (arith, count, all_read, there)) in
          let is = is-reader v.0 r ((work-at j v.0 v.1).2.same ∙ ap read_with (get_or_from_slice_get readers j (Some r) None f)) in
          have j is.0 (v.1 ∙ ap (λ x. Some x) is.1) ∙ is.2

  -- where their names are bound and what their stages name was handed in, they are ready
  pub are-ready : (fs : plug_type.Ghosts P) (ts : tally_type.Ghosts Q) (handed : Handed) → AreAtStart k.bytes stages works → AreOpened s map stages readers → AreNamesBound stages readers (length stages)
      → AreHandedIn fs ts stages works handed → AreReady s k fs ts handed map stages works
  are-ready fs ts handed starts opened bound in_hand = record {
    count = count;
    starts = starts;
    devices = λ i w e. (work-at i w e).2.device;
    handed = in_hand;
    tell = λ m e. record { told = λ i w r at is. tells-there s handed m stages i r ((work-at i w at).2.tells m e r is); handed = in_hand };
    front = λ i r at. (work-at i (Reader r) at).2.front r refl;
    headers = λ m e i r at. (work-at i (Reader r) at).2.header m e r refl;
    come = can-begin s handed map stages readers all_read opened bound;
    calm = λ i w e. (work-at i w e).2.calm;
  }
