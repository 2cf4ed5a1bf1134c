use Rattle.std.proofs.Common.{◌≡◌, [], Some, ap, sym, subst, ◌∙◌}
use Rattle.stage_forms.specs.Below.{reads_in}
use Rattle.stage_forms.specs.Starts.{fields_for, file_for}
use Rattle.stage_kinds.specs.declared.file_form.FileForm.TheVariants.{Las}
use Rattle.stage_forms.proofs.Asking.{form-asked}
use Rattle.stage_forms.proofs.starts.file_form.Goals as goal

pub returns-in_ok-las_form-in-WritersLas-clause-form : goal.returns-in_ok-las_form-in-WritersLas-clause-form
returns-in_ok-las_form-in-WritersLas-clause-form g c = λ has handed asked.
    let names = c.args.names.now in
    let reads = reads_in c.args.readers.now c.args.below.now in
    let o = c.in-WritersLas.las in
    let form = c.in_ok-las_form-in-WritersLas.field-0 in
    let extra = asked ∙ ap (fields_for has names) c.in-WritersLas.is in
    subst (λ p. file_for p (record { names = names; reads = reads; dims = has; fields = []; handed = handed }) ≡ Some (Las form)) (sym c.in-WritersLas.is)
    (ap (λ f. Some (Las f)) (sym (c.in_ok-las_form-in-WritersLas.ensures.value ∙ form-asked has names reads o c.args.extra extra)))
