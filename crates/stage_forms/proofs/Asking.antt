-- The fields that a writer is asked for stand behind those of its format.
use Rattle.std.proofs.Common.{◌≡◌, ℕ, ◌+◌, ◌≤◌, Bool, List, [], ◌∷◌, length, map, Option, Some, refl, ap, sym, ◌∙◌, arith}
use Rattle.std.proofs.lemmas.List.{length-map}
use Rattle.std.proofs.lemmas.Option.{same_Some}
use Rattle.answer_model.specs.Forms.{las_form, text_form}
use Rattle.cloud_points.specs.declared.dims.Dim.{Dim}
use Rattle.expr_lang.specs.Formula.{Formula}
use Rattle.cloud_points.specs.ExtraFields.{kind_size}
use Rattle.cloud_points.specs.declared.extra.ExtraField.{ExtraField}
use Rattle.extra_bytes.specs.Asked.{asked_field, asked_fields}
use Rattle.extra_bytes.specs.Fields.{AreLaid, moved}
use Rattle.extra_bytes.proofs.Sized.{moved_laid}
use Rattle.forward_rules.specs.Forwarded.{ReadFile, form_of}
use Rattle.forward_rules.specs.declared.form.LasForm.{LasForm}
use Rattle.las_header.specs.Formats.{format_size}
use Rattle.las_writer.specs.LasOutput.{IsForm}
use Rattle.name_binding.specs.Binding.{asked_in, bound_stage, bound_where}
use Rattle.name_binding.specs.Ferries.{names_behind}
use Rattle.name_binding.specs.declared.binding.BoundStage.TheVariants as does
use Rattle.plug_stages.specs.Handed.{Handed}
use Rattle.option_texts.specs.declared.extra_dims.NamedField.{NamedField}
use Rattle.stage_kinds.specs.declared.file_form.FileForm.{FileForm}
use Rattle.stage_kinds.specs.declared.file_form.FileForm.TheVariants as file
use Rattle.stage_options.specs.Roles.{role_of}
use Rattle.stage_options.specs.declared.options.LasWriterOptions.{LasWriterOptions}
use Rattle.stage_options.specs.declared.options.Options.{Options}
use Rattle.stage_options.specs.declared.options.Options.TheVariants.{WritersLas, WritersText}
use Rattle.stage_forms.specs.Starts.{fields_for, file_for, form_for, with_fields, writes_as}

-- a form with fields that are laid one right behind another can be written
pub form-with : (form : LasForm) (extra : List ExtraField) → AreLaid 0 extra → length extra ≤ 8 → IsForm form → IsForm (with_fields form extra)
form-with form extra laid few is = record {
  version = is.version;
  format = is.format;
  offsets = is.offsets;
  vlrs = is.vlrs;
  evlrs = is.evlrs;
  extra = moved_laid (format_size form.format) extra laid;
  few = (let same = length-map extra (moved (format_size form.format)) in omega (arith, few, same));
}

-- fields that are asked for, from a byte of the record on, moved further behind
pub asked-moved : (names : List (List ℕ)) (by at : ℕ) (asked : List NamedField) → map (moved by) (asked_fields names at asked) ≡ asked_fields names (at + by) asked
asked-moved names by at [] = refl
asked-moved names by at (f ∷ fs) =
    let size : ℕ = kind_size f.kind in
    let further : at + size + by ≡ at + by + size = omega arith in
    ap (λ l. asked_field names (at + by) f ∷ l) (asked-moved names by (at + size) fs ∙ ap (λ n. asked_fields names n fs) further)

-- a writer's form is what it is asked for, by its options and where it stands
pub form-asked : (has : Dim → Bool) (names : List (List ℕ)) (reads : List ReadFile) (o : LasWriterOptions) (extra : List ExtraField) → extra ≡ asked_fields names 0 (asked_in has names o.extra)
    → with_fields (form_of o.fields reads) extra ≡ las_form has names reads o
form-asked has names reads o extra e =
    let form = form_of o.fields reads in
    let size : ℕ = format_size form.format in
    let asked = asked_in has names o.extra in
    let here : 0 + size ≡ size = omega arith in
    ap (λ l. record form { extra = l }) (ap (map (moved size)) e ∙ asked-moved names size 0 asked ∙ ap (λ n. asked_fields names n asked) here)

-- a work that writes is made of the form of its file, and of the condition of its points
pub writes-made : (o : Options) (has : Dim → Bool) (handed : Handed) (before names : List (List ℕ)) (reads : List ReadFile) (only : Option (Formula Dim)) (extra : List ExtraField) (form : FileForm)
    → does.Writes only extra ≡ bound_stage has before o → names ≡ names_behind before o
    → (extra ≡ fields_for has names o → file_for o (record { names = names; reads = reads; dims = has; fields = []; handed = handed }) ≡ Some form)
    → writes_as (role_of o) (record { form = form; only = only }) ≡ form_for o (record { names = before; reads = reads; dims = has; fields = []; handed = handed })
writes-made (WritersLas w) has handed before names reads only extra form e behind made =
    let only-is : only ≡ bound_where before w.only = cc in
    let extra-is : extra ≡ asked_fields before 0 (asked_in has before w.extra) = cc in
    let given = made (extra-is ∙ ap (λ n. asked_fields n 0 (asked_in has n w.extra)) (sym behind)) in
    let form-is : form ≡ file.Las (las_form has before reads w) = same_Some form _ (sym given) ∙ ap (λ n. file.Las (las_form has n reads w)) behind in
    ap (λ f. writes_as (role_of (WritersLas w)) (record { form = f; only = only })) form-is ∙ ap (λ l. writes_as (role_of (WritersLas w)) (record { form = file.Las (las_form has before reads w); only = l })) only-is
writes-made (WritersText w) has handed before names reads only extra form e behind made =
    let only-is : only ≡ bound_where before w.only = cc in
    let extra-is : extra ≡ [] = cc in
    let given = made extra-is in
    let form-is : form ≡ file.Text (text_form before w) = same_Some form _ (sym given) ∙ ap (λ n. file.Text (text_form n w)) behind in
    ap (λ f. writes_as (role_of (WritersText w)) (record { form = f; only = only })) form-is ∙ ap (λ l. writes_as (role_of (WritersText w)) (record { form = file.Text (text_form before w); only = l })) only-is
writes-made o has handed before names reads only extra form e behind made = absurd (cc)
