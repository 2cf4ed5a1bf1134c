use Rattle.std.proofs.Common.{◌≡◌, drop}
use Rattle.option_texts.specs.NamedFields.{are_different}
use Rattle.option_texts.proofs.extra_dims.are_different.Given as goal

abbrev pub invariant-loop-k : goal.invariant-loop-k
invariant-loop-k l = are_different (drop l.k l.fields) ≡ are_different l.fields
