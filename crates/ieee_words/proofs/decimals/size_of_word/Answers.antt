use Rattle.std.proofs.Common.{arith}
use Rattle.ieee_words.proofs.Wholes.{size_without_exponent, size_with_exponent}
use Rattle.ieee_words.proofs.decimals.size_of_word.Goals as goal

pub returns-then-exponent-eq0-clause-value : goal.returns-then-exponent-eq0-clause-value
returns-then-exponent-eq0-clause-value c = size_without_exponent c.args.size (omega arith)

pub returns-else-exponent-eq0-clause-value : goal.returns-else-exponent-eq0-clause-value
returns-else-exponent-eq0-clause-value c = size_with_exponent c.args.size (omega arith) (λ z. omega arith)
