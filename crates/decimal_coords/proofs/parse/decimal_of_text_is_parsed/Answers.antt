use Rattle.decimal_coords.proofs.TextDecimals.{decimal_of_text_is}
use Rattle.decimal_coords.proofs.parse.decimal_of_text_is_parsed.Goals as goal

pub returns : goal.returns
returns c = decimal_of_text_is
