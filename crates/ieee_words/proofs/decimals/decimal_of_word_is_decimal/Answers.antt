use Rattle.ieee_words.proofs.WordDecimals.{decimal_of_word_is}
use Rattle.ieee_words.proofs.decimals.decimal_of_word_is_decimal.Goals as goal

pub returns : goal.returns
returns c = decimal_of_word_is
