use Rattle.std.proofs.Common.{arith}
use Rattle.ieee_words.proofs.Bits.{leading_53}
use Rattle.ieee_words.proofs.rounding.leading_bits.Goals as goal

pub overflow_sub-down : goal.overflow_sub-down
overflow_sub-down c = let t = leading_53 c.args.n c.requires.low c.requires.high in omega arith

pub overflow_cast-result : goal.overflow_cast-result
overflow_cast-result c = let t = leading_53 c.args.n c.requires.low c.requires.high in omega arith

pub returns-clause-low : goal.returns-clause-low
returns-clause-low c = let t = leading_53 c.args.n c.requires.low c.requires.high in t.2

pub returns-clause-high : goal.returns-clause-high
returns-clause-high c = let t = leading_53 c.args.n c.requires.low c.requires.high in t.3

pub returns-clause-down_low : goal.returns-clause-down_low
returns-clause-down_low c = let t = leading_53 c.args.n c.requires.low c.requires.high in omega arith

pub returns-clause-down_high : goal.returns-clause-down_high
returns-clause-down_high c = let t = leading_53 c.args.n c.requires.low c.requires.high in omega arith
