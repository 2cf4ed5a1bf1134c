use Rattle.ieee_words.proofs.OneDecimal.{one_decimal}
use Rattle.ieee_words.proofs.decimals.decimal_is_one.Goals as goal

pub returns : goal.returns
returns c = one_decimal
