use Rattle.std.proofs.Common.{◌≡◌, ◌++◌, string_bytes, drop}
use Rattle.lasline_top.specs.Texts.{numbers_text}
use Rattle.lasline_top.proofs.texts.push_numbers.Given as goal

abbrev pub invariant-loop-number : goal.invariant-loop-number
invariant-loop-number l = string_bytes l.text ++ numbers_text (drop l.number-index l.numbers) ≡ string_bytes l.initial.text ++ numbers_text l.numbers
