use Rattle.std.proofs.Common.{refl}
use Rattle.extra_bytes.proofs.examples.asked_are_fields.Goals as goal

pub returns : goal.returns
returns c = record { one = refl; known = refl; unknown = refl; all = refl }
