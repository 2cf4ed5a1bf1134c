use Rattle.std.proofs.Common.{◌∙◌, ap, sym, is_some, None, if◌then◌else◌}
use Rattle.option_texts.specs.Columns.{column_of}
use Rattle.option_texts.specs.Parts.{parts_of, each_read}
use Rattle.option_texts.proofs.Reading.{each_is_read}
use Rattle.option_texts.proofs.columns.is_columns.Goals as goal

pub returns-then-has_few_parts : goal.returns-then-has_few_parts
returns-then-has_few_parts c =
    let text = c.args.text.now in
    c.are_columns.ensures ∙ sym (each_is_read column_of (parts_of text))
    ∙ ap (λ few. is_some (if few then each_read column_of (parts_of text) else None)) (sym c.if-has_few_parts.true ∙ c.has_few_parts.ensures)
