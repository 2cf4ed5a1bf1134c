use Rattle.exact_numbers.proofs.OneRounding.{is_half_away, from_half_away}
use Rattle.exact_numbers.proofs.half_away_is_one.Goals as goal

pub returns : goal.returns
returns c num den n some = (is_half_away num den n some, from_half_away num den n some)
