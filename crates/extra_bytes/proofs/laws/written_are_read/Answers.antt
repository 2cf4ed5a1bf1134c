use Rattle.extra_bytes.proofs.ReadBack as law
use Rattle.extra_bytes.proofs.laws.written_are_read.Goals as goal

pub returns : goal.returns
returns c = law.written_are_read
