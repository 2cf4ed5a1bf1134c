use Rattle.std.proofs.Common.{◌∙◌, ap, sym, option_map, None, if◌then◌else◌}
use Rattle.option_texts.specs.Ferries.{ferry_of}
use Rattle.option_texts.specs.Parts.{parts_of, each_read}
use Rattle.option_texts.proofs.Bounds.{are_ferries}
use Rattle.option_texts.proofs.ferries.ferries_of.Goals as goal

pub invariant_of-result : goal.invariant_of-result
invariant_of-result c =
    let text = c.args.text.now in
    are_ferries text c.in-Some.items.items
    (sym (ap (λ few. if few then each_read ferry_of (parts_of text) else None) (sym c.if-not-has_few_parts.false ∙ c.has_few_parts.ensures))
    ∙ sym c.in_ok-items.ensures ∙ ap (option_map (λ list. list.items)) c.in-Some.is)
