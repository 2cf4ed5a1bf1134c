use Rattle.std.proofs.Common.{◌≤◌, length, map, ap, sym, subst, ◌∙◌}
use Rattle.answer_model.specs.Forms.{column_of}
use Rattle.option_texts.specs.Columns.{AreColumns}
use Rattle.text_writer.specs.TextOutput.{IsTextForm}
use Rattle.stage_forms.proofs.Texts.{form-is, form-good}
use Rattle.stage_forms.proofs.forms.text_form.Goals as goal

pub returns-clause-value : goal.returns-clause-value
returns-clause-value c =
    let columns = c.in_ok-columns.ensures ∙ ap (λ p. map (column_of c.args.names.now p) c.as_slice.result.now) c.count-precision.ensures.value ∙ ap (map (column_of c.args.names.now c.args.options.now.precision)) c.as_slice.ensures.columns in
    let delimiter = c.new.ensures ∙ c.new-between.ensures ∙ c.in_ok-delimiter.ensures.ok ∙ c.as_str.ensures.text in
    form-is c.args.names.now c.args.options.now c.in_ok-columns.field-0 c.new.result columns delimiter

pub returns-clause-form : goal.returns-clause-form
returns-clause-form c =
    let o = c.args.options.now in
    subst IsTextForm (sym (returns-clause-value c))
    (form-good c.args.names.now o (subst AreColumns c.as_slice.ensures.columns c.as_slice.ensures.bounded)
    (subst (λ p. p ≤ 9) c.count-precision.ensures.value c.count-precision.ensures.few))

pub new-requires : goal.new-requires
new-requires c = subst (λ d. length d ≤ 8) (sym (c.new-between.ensures ∙ c.in_ok-delimiter.ensures.ok)) c.as_str.ensures.short
