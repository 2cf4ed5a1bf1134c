use Rattle.las_vlr.proofs.WrittenLists.{evlrs_again}
use Rattle.las_vlr.proofs.laws.written_evlrs_are_read.Goals as goal

pub returns : goal.returns
returns c = evlrs_again
