use Rattle.std.proofs.Common.{refl}
use Rattle.lasline_top.specs.Answer.{trial_text}
use Rattle.lasline_top.proofs.running.trial_text.Goals as goal

pub returns : goal.returns
unfolding trial_text
returns c = refl
