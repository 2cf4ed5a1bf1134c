use Rattle.std.proofs.Common.{ap, ◌∙◌}
use Rattle.decimal_coords.specs.Fixed.{fixed_text}
use Rattle.text_writer.specs.Cells.{cell_as}
use Rattle.text_writer.proofs.Whole.{whole_is_decimal}
use Rattle.text_writer.proofs.laws.whole_numbers_are_whole.Goals as goal

pub returns : goal.returns
returns c = λ p k n kind value. ap (λ m. cell_as m p k) kind ∙ ap (λ z. fixed_text z 0) value ∙ whole_is_decimal n
