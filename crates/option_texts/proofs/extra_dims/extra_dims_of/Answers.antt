use Rattle.std.proofs.Common.{◌∙◌, ap, sym, option_map}
use Rattle.option_texts.specs.NamedFields.{are_different}
use Rattle.option_texts.specs.Parts.{parts_of}
use Rattle.option_texts.proofs.Bounds.{are_fields}
use Rattle.option_texts.proofs.extra_dims.extra_dims_of.Goals as goal

pub invariant_of-result : goal.invariant_of-result
invariant_of-result c =
    are_fields (parts_of c.args.text.now) c.in-Some.items.items
    (sym c.has_few_parts.ensures ∙ c.if-not-has_few_parts.false)
    (sym c.in_ok-items.ensures ∙ ap (option_map (λ list. list.items)) c.in-Some.is)
    (ap are_different (sym c.as_slice.ensures.value) ∙ sym c.are_different.ensures ∙ c.if-are_different.true)
