use Rattle.ieee_words.proofs.NearWords.{near_word_is}
use Rattle.ieee_words.proofs.near_word_is_nearest.Goals as goal

pub returns : goal.returns
returns c = near_word_is
