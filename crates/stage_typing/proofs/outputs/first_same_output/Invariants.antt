use Rattle.std.proofs.Common.{◌≡◌, ◌<◌, ◌-◌, ℕ, find, length}
use Rattle.std.specs.List.{range_with_len}
use Rattle.stage_typing.specs.Outputs.{NamesAgain, names_again, same_output}
use Rattle.stage_typing.proofs.outputs.first_same_output.Given as goal

abbrev pub invariant-loop-i : goal.invariant-loop-i
invariant-loop-i l = record {
  none : (k : ℕ) → k < l.i → NamesAgain l.stages k → ⊥;
  rest : same_output l.stages ≡ find (names_again l.stages) (range_with_len l.i (length l.stages - l.i));
}
