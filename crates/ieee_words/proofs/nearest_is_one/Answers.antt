use Rattle.ieee_words.proofs.Unique.{unique}
use Rattle.ieee_words.proofs.nearest_is_one.Goals as goal

pub returns : goal.returns
returns c = unique
