use Rattle.extra_bytes.proofs.Described as law
use Rattle.extra_bytes.proofs.laws.asked_are_laid.Goals as goal

pub returns : goal.returns
returns c = law.asked_are_laid
