use Rattle.las_vlr.proofs.WrittenLists.{vlrs_again}
use Rattle.las_vlr.proofs.laws.written_vlrs_are_read.Goals as goal

pub returns : goal.returns
returns c = vlrs_again
