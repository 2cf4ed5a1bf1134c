use Rattle.std.proofs.Common.{length, arith}
use Rattle.whole_filters.proofs.Joining.{bits_hold, bits_narrow}
use Rattle.whole_filters.proofs.words.WordForm.narrowest.Goals as goal

pub returns-clause-bits : goal.returns-clause-bits
returns-clause-bits c = bits_narrow (length c.args.keys.now) (omega arith)

pub returns-clause-places : goal.returns-clause-places
returns-clause-places c = omega (arith, bits_hold (length c.args.keys.now) (omega arith))
