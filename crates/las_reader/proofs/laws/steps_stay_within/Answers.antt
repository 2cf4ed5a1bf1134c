use Rattle.las_reader.proofs.Following as law
use Rattle.las_reader.proofs.laws.steps_stay_within.Goals as goal

pub returns : goal.returns
returns c = law.steps_stay_within
