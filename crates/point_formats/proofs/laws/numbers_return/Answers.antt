use Rattle.point_formats.proofs.Counting.{raw_returns, steps_return}
use Rattle.point_formats.proofs.laws.numbers_return.Goals as goal

pub returns-clause-raw : goal.returns-clause-raw
returns-clause-raw c = raw_returns

pub returns-clause-steps : goal.returns-clause-steps
returns-clause-steps c = steps_return
