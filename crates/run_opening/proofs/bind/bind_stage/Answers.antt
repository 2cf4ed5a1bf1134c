use Rattle.std.proofs.Common.{◌≡◌, ◌||◌, true, ap, sym, subst, ◌∙◌}
use Rattle.std.specs.Prelude.{is_some}
use Rattle.answer_model.specs.Values.{fields_found, fields_past, gives_dim, unbound}
use Rattle.cloud_points.specs.Layouts.{holds}
use Rattle.extra_bytes.specs.Bound.{bound_fields}
use Rattle.stage_forms.specs.Starts.{IsBoundBehind}
use Rattle.stage_forms.specs.Below.{found_of, read_of, reads_in}
use Rattle.stage_kinds.specs.declared.file_form.StageForm.TheVariants.{Reads}
use Rattle.plug_stages.specs.Handed.{none_handed}
use Rattle.stage_options.specs.Roles.{is_reading, role_of}
use Rattle.stage_names.specs.Faults.{IsFaultOf}
use Rattle.stage_forms.proofs.Rowed.{reads-form}
use Rattle.run_opening.proofs.Binding.{dims-past, form-fits, found-fault, no-fields, options-fault}
use Rattle.run_opening.proofs.bind.bind_stage.Goals as goal

pub returns-in-Err-clause-err : goal.returns-in-Err-clause-err
returns-in-Err-clause-err g c =
    let o = c.args.stage.now.options in
    let has = holds c.args.below.now.layout in
    let found = found_of o c.args.reader.now in
    c.unbound_refusal.ensures.at (unbound c.args.number c.args.names.now has o found) (options-fault c.args.number c.args.names.now has o found c.in-Err.err c.in-Err.ensures.fault)

pub returns-in-Ok-take_fields-clause-form : goal.returns-in-Ok-take_fields-clause-form
returns-in-Ok-take_fields-clause-form g c = λ handed.
    let o = c.args.stage.now.options in
    let names = c.args.names.now in
    let reading : is_reading (role_of o) ≡ true = sym c.requires.fit ∙ ap is_some c.in-Some.is in
    let fields = c.in-Ok-take_fields.ensures.fields ∙ ap (λ n. bound_fields n (fields_found o (read_of c.in-Some.reader))) c.in-Ok.ensures.names
    ∙ ap (λ r. fields_past names o (found_of o r)) (sym c.in-Some.is) in
    ap Reads fields ∙ sym (reads-form o (record {
      names = names;
      reads = reads_in c.args.readers.now c.args.below.now.readers.items;
      dims = holds c.args.below.now.layout;
      fields = fields_past names o (found_of o c.args.reader.now);
      handed = handed;
    }) reading)

pub returns-in-Ok-take_fields-clause-own : goal.returns-in-Ok-take_fields-clause-own
returns-in-Ok-take_fields-clause-own g c = c.in-Ok-take_fields.ensures.own (c.in-Ok.ensures.own c.requires.own)

pub returns-in-Ok-take_fields-clause-layout : goal.returns-in-Ok-take_fields-clause-layout
returns-in-Ok-take_fields-clause-layout g c = λ dim.
    let o = c.args.stage.now.options in
    let names = c.args.names.now in
    let old = holds c.args.below.now.layout dim in
    dims-past names c.bind.new.names o (fields_found o (read_of c.in-Some.reader)) dim old _ _ (c.in-Ok.ensures.layout dim) (c.in-Ok-take_fields.ensures.layout dim) c.in-Ok.ensures.names
    ∙ ap (λ r. old || gives_dim names o (found_of o r) dim) (sym c.in-Some.is)

pub returns-in-Err-take_fields-clause-err : goal.returns-in-Err-take_fields-clause-err
returns-in-Err-take_fields-clause-err g c =
    let o = c.args.stage.now.options in
    let names = c.args.names.now in
    let has = holds c.args.below.now.layout in
    let fault = found-fault c.args.number names c.bind.new.names has o (fields_found o (read_of c.in-Some.reader)) c.in-Err-take_fields.err c.in-Ok.ensures.ok c.in-Ok.ensures.names c.in-Err-take_fields.ensures.fault in
    c.unbound_refusal-in-Err-take_fields.ensures.at (unbound c.args.number names has o (found_of o c.args.reader.now))
    (subst (λ r. IsFaultOf (unbound c.args.number names has o (found_of o r)) c.in-Err-take_fields.err) (sym c.in-Some.is) fault)

pub returns-in-Ok-stage_form-clause-fits : goal.returns-in-Ok-stage_form-clause-fits
returns-in-Ok-stage_form-clause-fits g c =
    let behind : IsBoundBehind c.args.stage.now.options c.in-Ok.bound (holds c.args.below.now.layout) c.args.names.now c.bind.new.names = record { bound = c.in-Ok.ensures.bound; behind = c.in-Ok.ensures.names } in
    form-fits c.args.stage.now.options _ c.in-Ok-stage_form.form (c.in-Ok-stage_form.ensures.form (holds c.args.below.now.layout) c.args.names.now none_handed behind) c.in-Ok-stage_form.ensures.good

pub returns-in-Ok-stage_form-clause-own : goal.returns-in-Ok-stage_form-clause-own
returns-in-Ok-stage_form-clause-own g c = c.in-Ok.ensures.own c.requires.own

pub returns-in-Ok-stage_form-clause-layout : goal.returns-in-Ok-stage_form-clause-layout
returns-in-Ok-stage_form-clause-layout g c = λ dim.
    let o = c.args.stage.now.options in
    let names = c.args.names.now in
    let old = holds c.args.below.now.layout dim in
    no-fields names o dim old _ (c.in-Ok.ensures.layout dim) ∙ ap (λ r. old || gives_dim names o (found_of o r) dim) (sym c.in-None.is)
