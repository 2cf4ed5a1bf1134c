use Rattle.las_header.specs.Written.{scale_bytes}
use Rattle.byte_numbers.proofs.Putting.{Putting}
use Rattle.las_header.proofs.writing.put_scales.Given as goal

abbrev pub invariant-loop-scale : goal.invariant-loop-scale
invariant-loop-scale g l = Putting scale_bytes 8 l.scales l.scale-index l.initial.part.items l.part.items
