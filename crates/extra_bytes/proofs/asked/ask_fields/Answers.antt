use Rattle.std.proofs.Common.{◌≡◌, All, ap, sym, subst, ◌∙◌, true}
use Rattle.cloud_points.specs.Layouts.{holds}
use Rattle.option_texts.specs.NamedFields.{are_different}
use Rattle.option_texts.specs.declared.extra_dims.NamedField.{NamedField}
use Rattle.text_bytes.specs.Bytes.{is_name}
use Rattle.extra_bytes.proofs.Described.{all_different, all_named, laid_result}
use Rattle.extra_bytes.proofs.asked.ask_fields.Goals as goal

pub returns-in_ok-all-in-All-clause-laid : goal.returns-in_ok-all-in-All-clause-laid
returns-in_ok-all-in-All-clause-laid c = λ own.
    let names = c.args.names.now in
    let held = holds c.args.layout.now in
    let is = c.deref.ensures.value ∙ c.in_ok-all-in-All.ensures.all in
    laid_result c.args.i held names c.args.from c.deref.result.now c.ask_each.result c.ask_each.ensures.ok c.ask_each.ensures.none c.known_names.ensures.few own.0
    (subst (All (λ (f : NamedField). is_name f.name ≡ true)) (sym is) (all_named held 0 names own.1)) (ap are_different is ∙ all_different held 0 names c.known_names.ensures.different)

pub returns-in-Fields-clause-laid : goal.returns-in-Fields-clause-laid
returns-in-Fields-clause-laid c = λ own.
    let bounded = c.as_slice.ensures.bounded in
    laid_result c.args.i (holds c.args.layout.now) c.args.names.now c.args.from c.as_slice.result.now c.ask_each-in-Fields.result c.ask_each-in-Fields.ensures.ok c.ask_each-in-Fields.ensures.none
    c.known_names.ensures.few own.0 bounded.named bounded.different
