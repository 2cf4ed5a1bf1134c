use Rattle.las_reader.proofs.Following as law
use Rattle.las_reader.proofs.laws.steps_come_to_the_end.Goals as goal

pub returns : goal.returns
returns c = law.steps_come_to_the_end
