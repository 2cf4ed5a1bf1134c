use Rattle.decimal_coords.proofs.OneAnswer.{one_answer}
use Rattle.decimal_coords.proofs.parse.parsed_is_one.Goals as goal

pub returns : goal.returns
returns c = one_answer
