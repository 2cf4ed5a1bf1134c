use Rattle.std.specs.Int.{w32, to_le_bytes}
use Rattle.byte_numbers.proofs.Putting.{Putting}
use Rattle.byte_numbers.proofs.appending.put_u32s.Given as goal

abbrev pub invariant-loop-number : goal.invariant-loop-number
invariant-loop-number g l = Putting (to_le_bytes w32) 4 l.numbers l.number-index l.initial.part.items l.part.items
