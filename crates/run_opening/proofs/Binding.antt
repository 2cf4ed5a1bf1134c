-- One stage more is bound.
use Rattle.std.proofs.Common.{◌≡◌, ℕ, suc, ◌+◌, ◌<◌, ◌||◌, Bool, true, false, true≢false, List, [], length, slice_get, is_some, Option, Some, None, refl, ap, sym, subst, ◌∙◌, arith, inl, inr}
use Rattle.std.proofs.Math.Bool.{or-false, or_assoc}
use Rattle.std.proofs.lemmas.Bool.Decides.{eqb_tells}
use Rattle.cloud_points.specs.Layouts.{holds}
use Rattle.cloud_points.specs.declared.dims.Dim.{Dim}
use Rattle.cloud_points.specs.declared.extra.ExtraField.{ExtraField}
use Rattle.forward_rules.specs.Forwarded.{ReadFile}
use Rattle.las_reader.specs.declared.reader.LasReader.{LasReader}
use Rattle.stage_options.specs.Roles.{is_reading, is_writing, plug_of, role_of, tally_of, writing_by}
use Rattle.stage_options.specs.Values.{is_numbered}
use Rattle.stage_options.specs.declared.options.Options.{Options}
use Rattle.stage_options.specs.declared.options.Options.TheVariants.{ReadersLas, WritersLas, WritersText}
use Rattle.stage_names.specs.declared.faults.PipeErr.{PipeErr}
use Rattle.stage_names.specs.declared.faults.PipeErr.TheVariants.{Fault, Memory}
use Rattle.stage_names.specs.declared.faults.PipeFault.{PipeFault}
use Rattle.stage_names.specs.Faults.{IsFaultOf, or_else}
use Rattle.name_binding.specs.Binding.{binding_fault}
use Rattle.name_binding.specs.Ferries.{adds, names_behind}
use Rattle.name_binding.proofs.Behind.{second_fault}
use Rattle.extra_bytes.specs.Bound.{bound_fields, fields_fault}
use Rattle.stage_options.specs.declared.stage.StageSpec.{StageSpec}
use Rattle.stage_forms.specs.declared.below.Below.{Below}
use Rattle.stage_forms.specs.Below.{AreReaders, HaveReaders, IsTaken, found_of}
use Rattle.run_report.specs.declared.refusal.Refusal.{Refusal}
use Rattle.run_report.specs.declared.refusal.Refusal.TheVariants as of
use Rattle.answer_model.specs.Values.{Opened, dims_taken, fields_found, found_at, gives_dim, is_of_fields, names_at, names_past, options_at, unbound, unbound_at}
use Rattle.answer_model.proofs.Least.{least-at}
use Rattle.answer_model.specs.Rows.{Setting}
use Rattle.stage_forms.specs.Starts.{IsGood, form_for, tells_points, writes_as}
use Rattle.stage_forms.proofs.Rowed.{IsRow, row-is}
use Rattle.stage_kinds.specs.declared.file_form.StageForm.{StageForm}
use Rattle.stage_kinds.specs.declared.file_form.Writing.{Writing}
use Rattle.stage_kinds.specs.declared.file_form.StageForm.TheVariants as formed
use Rattle.run_opening.specs.Begun.{AreNamesBound, IsForm, IsUnbound}
use Rattle.run_opening.specs.Binding.{IsUnboundAt}

-- the dimensions of the points that a stage takes are those that stand below it
pub dims-are : {S : Type 0} (stages : List StageSpec) (readers : List (Option (LasReader S))) (opened : Opened) (i : ℕ) (b : Below)
    → IsTaken stages readers opened i b → holds b.layout ≡ dims_taken stages opened i
dims-are stages readers opened i b below = λ j dim. below.dims dim j

-- what is looked at is what stands below the stage
pub bound-is : {S : Type 0} (stages : List StageSpec) (readers : List (Option (LasReader S))) (opened : Opened) (i : ℕ) (b : Below)
    → IsTaken stages readers opened i b → unbound i (names_at stages opened i) (holds b.layout) (options_at stages i) (found_at stages opened i) ≡ unbound_at stages opened i
bound-is stages readers opened i b below = ap (λ h. unbound i (names_at stages opened i) h (options_at stages i) (found_at stages opened i)) (dims-are stages readers opened i b below)

-- the extra names behind one stage more
pub names-more : (stages : List StageSpec) (opened : Opened) (i : ℕ) → names_at stages opened (i + 1) ≡ names_past (names_at stages opened i) (options_at stages i) (found_at stages opened i)
names-more stages opened i = let next : i + 1 ≡ suc i = omega arith in ap (names_at stages opened) next

-- the fields that a stage takes are those of its reader's file
none-found : (o : Options) (read : ReadFile) → is_reading (role_of o) ≡ false → fields_found o read ≡ []
none-found (ReadersLas o) read e = absurd (true≢false e)
none-found o read e = refl

pub found-is : {S : Type 0} (stages : List StageSpec) (readers : List (Option (LasReader S))) (opened : Opened) → AreReaders stages readers → HaveReaders readers opened
    → (i : ℕ) (reader : Option (LasReader S)) → slice_get readers i ≡ Some reader → found_of (options_at stages i) reader ≡ found_at stages opened i
found-is stages readers opened fit have i (Some r) at = ap (fields_found (options_at stages i)) (sym (have i r at))
found-is stages readers opened fit have i None at = sym (none-found (options_at stages i) (opened.file i).read (sym (fit i None at)))

-- so many are bound, and one more
pub more-bound : {S : Type 0} (stages : List StageSpec) (readers : List (Option (LasReader S))) (i : ℕ) → AreNamesBound stages readers i
    → ((opened : Opened) → HaveReaders readers opened → unbound_at stages opened i ≡ None) → AreNamesBound stages readers (i + 1)
more-bound stages readers i before here opened have k lt = elim (eqb_tells k i) [
  | inl p ↦ ap (unbound_at stages opened) p.1 ∙ here opened have
  | inr p ↦ (let ne = p.1 in before opened have k (omega (arith, lt, ne)))
]

-- the first that isn't is the one whose fault is told
pub unbound-here : {S : Type 0} (stages : List StageSpec) (readers : List (Option (LasReader S))) (i : ℕ) (found : Option PipeFault) (refusal : Refusal) → i < length stages → AreNamesBound stages readers i
    → ((opened : Opened) → HaveReaders readers opened → found ≡ unbound_at stages opened i) → IsUnboundAt found refusal → IsUnbound stages readers refusal
unbound-here stages readers i found of.Memory lt before is why = tt
unbound-here stages readers i found (of.Pipeline f) lt before is why = λ opened have.
    (i, least-at (unbound_at stages opened) (length stages) i f lt (sym (is opened have) ∙ why) (λ j l. before opened have j l))
unbound-here stages readers i found (of.Data k f) lt before is why = absurd why
unbound-here stages readers i found (of.Device p o) lt before is why = absurd why
unbound-here stages readers i found (of.Usage k) lt before is why = absurd why

-- ---- one stage

first-fault : (first second : Option PipeFault) (err : PipeErr) → IsFaultOf first err → IsFaultOf (or_else first second) err
first-fault first second Memory h = tt
first-fault first second (Fault f) h = ap (λ o. or_else o second) h

-- it is refused for its options, or else for the fields of its file
pub options-fault : (i : ℕ) (names : List (List ℕ)) (has : Dim → Bool) (o : Options) (found : List ExtraField) (err : PipeErr) → IsFaultOf (binding_fault i names has o) err → IsFaultOf (unbound i names has o found) err
options-fault i names has o found err h = first-fault (binding_fault i names has o) (fields_fault i (names_behind names o) found) err h

pub found-fault : (i : ℕ) (names after : List (List ℕ)) (has : Dim → Bool) (o : Options) (found : List ExtraField) (err : PipeErr) → binding_fault i names has o ≡ None → after ≡ names_behind names o → IsFaultOf (fields_fault i after found) err
    → IsFaultOf (unbound i names has o found) err
found-fault i names after has o found err none behind h =
    second_fault (binding_fault i names has o) (fields_fault i (names_behind names o) found) err none (subst (λ n. IsFaultOf (fields_fault i n found) err) behind h)

pub none-unbound : (i : ℕ) (names after : List (List ℕ)) (has : Dim → Bool) (o : Options) (found : List ExtraField) → binding_fault i names has o ≡ None → after ≡ names_behind names o → fields_fault i after found ≡ None → unbound i names has o found ≡ None
none-unbound i names after has o found none behind h = ap (λ f. or_else f (fields_fault i (names_behind names o) found)) none ∙ ap (λ n. fields_fault i n found) (sym behind) ∙ h

-- the dimensions behind it
pub dims-past : (names after : List (List ℕ)) (o : Options) (found : List ExtraField) (dim : Dim) (old mid new : Bool) → mid ≡ (old || adds names o dim) → new ≡ (mid || is_of_fields (bound_fields after found) dim) → after ≡ names_behind names o
    → new ≡ (old || gives_dim names o found dim)
dims-past names after o found dim old mid new first then behind =
    then ∙ ap (λ b. b || is_of_fields (bound_fields after found) dim) first ∙ or_assoc old (adds names o dim) (is_of_fields (bound_fields after found) dim)
    ∙ ap (λ n. old || (adds names o dim || is_of_fields (bound_fields n found) dim)) behind

pub no-fields : (names : List (List ℕ)) (o : Options) (dim : Dim) (old new : Bool) → new ≡ (old || adds names o dim) → new ≡ (old || gives_dim names o [] dim)
no-fields names o dim old new e = e ∙ ap (λ b. old || b) (sym (or-false (adds names o dim)))

-- it shows points to a filter
abbrev shows_filter : StageForm → Bool
shows_filter (formed.Plugs only) = true
shows_filter _ = false

no-writer-shows : (each : Bool) (name : List ℕ) (x : Writing) → (shows_filter (writes_as (writing_by each name) x) ≡ false) × (tells_points (writes_as (writing_by each name) x) ≡ false)
no-writer-shows true name x = (refl, refl)
no-writer-shows false name x = (refl, refl)

-- exactly where its options name one
filter-shown : (o : Options) (setting : Setting) → shows_filter (form_for o setting) ≡ is_some (plug_of o)
filter-shown (WritersLas o) setting = (no-writer-shows (is_numbered o.filename) o.filename _).0
filter-shown (WritersText o) setting = (no-writer-shows (is_numbered o.filename) o.filename _).0
filter-shown o setting = refl

tally-shown : (o : Options) (setting : Setting) → tells_points (form_for o setting) ≡ is_some (tally_of o)
tally-shown (WritersLas o) setting = (no-writer-shows (is_numbered o.filename) o.filename _).1
tally-shown (WritersText o) setting = (no-writer-shows (is_numbered o.filename) o.filename _).1
tally-shown o setting = refl

-- what its work is made of does what the stage does
pub form-fits : (o : Options) (setting : Setting) (form : StageForm) → form ≡ form_for o setting → IsGood form → IsForm o form
form-fits o setting form e good = go form e (subst (λ f. IsRow f o setting) (sym e) (row-is o setting)) good
  where
    go : (form : StageForm) → form ≡ form_for o setting → IsRow form o setting → IsGood form → IsForm o form
    go (formed.Reads fields) e row good = row.0
    go (formed.Filters f) e row good = row.does
    go (formed.Plugs only) e row good = (row.does, sym (ap shows_filter e ∙ filter-shown o setting))
    go (formed.Tallies only) e row good = (row.does, sym (ap tells_points e ∙ tally-shown o setting))
    go (formed.Gathers m) e row good = (row.0.device, row.0.inner, good)
    go (formed.Writes x) e row good = (ap is_writing row.does, good)
