use Rattle.las_header.specs.Written.{nano_bytes}
use Rattle.byte_numbers.proofs.Putting.{Putting}
use Rattle.las_header.proofs.writing.put_offsets.Given as goal

abbrev pub invariant-loop-offset : goal.invariant-loop-offset
invariant-loop-offset g l = Putting nano_bytes 8 l.offsets l.offset-index l.initial.part.items l.part.items
