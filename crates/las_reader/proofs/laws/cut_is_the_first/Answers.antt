use Rattle.las_reader.proofs.Cuts as law
use Rattle.las_reader.proofs.laws.cut_is_the_first.Goals as goal

pub returns : goal.returns
returns c = law.cut_is_the_first
