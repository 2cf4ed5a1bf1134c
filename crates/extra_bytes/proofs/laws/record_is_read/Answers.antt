use Rattle.extra_bytes.proofs.Found as law
use Rattle.extra_bytes.proofs.laws.record_is_read.Goals as goal

pub returns : goal.returns
returns c = law.record_is_read
