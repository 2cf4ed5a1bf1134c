use Rattle.ieee_words.proofs.ScaleWords.{one_scale}
use Rattle.ieee_words.proofs.scales.scale_is_one.Goals as goal

pub returns : goal.returns
returns c = one_scale
