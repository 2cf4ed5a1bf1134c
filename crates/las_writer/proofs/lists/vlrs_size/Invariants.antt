use Rattle.las_writer.proofs.FirstItems.{Measured}
use Rattle.las_writer.proofs.lists.vlrs_size.Given as goal

abbrev pub invariant-loop-vlr : goal.invariant-loop-vlr
invariant-loop-vlr l = Measured l.vlrs l.vlr-index l.size
