use Rattle.std.proofs.Common.{arith}
use Rattle.std.proofs.lemmas.Nat.{le_or_l, le_or_r}
use Rattle.packed_chunk.proofs.outside.find.Goals as goal

pub returns-clause-before : goal.returns-clause-before
returns-clause-before c = λ none. omega (arith, none, le_or_l c.args.found.now c.outside.result)

pub returns-clause-here : goal.returns-clause-here
returns-clause-here c = λ none lacks. omega (arith, none, le_or_r c.args.found.now c.outside.result, c.outside.ensures lacks)
