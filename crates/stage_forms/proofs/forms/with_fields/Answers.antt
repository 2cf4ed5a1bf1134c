use Rattle.std.proofs.Common.{◌≡◌, map, rules, sym, subst}
use Rattle.extra_bytes.specs.Fields.{moved}
use Rattle.las_header.specs.Formats.{format_size}
use Rattle.extra_bytes.proofs.Sized.{laid_near}
use Rattle.las_writer.specs.LasOutput.{IsForm}
use Rattle.stage_forms.proofs.Asking.{form-with}
use Rattle.stage_forms.proofs.forms.with_fields.Goals as goal

pub move_fields-requires-clause-near : goal.move_fields-requires-clause-near
move_fields-requires-clause-near c = laid_near c.args.extra c.requires.laid c.requires.few

pub returns-clause-form : goal.returns-clause-form
returns-clause-form c =
    let form = c.args.form in
    let moved-is : c.move_fields.result ≡ map (moved (format_size form.format)) c.args.extra = search rules in
    subst (λ l. IsForm (record form { extra = l })) (sym moved-is) (form-with form c.args.extra c.requires.laid c.requires.few c.requires.form)
