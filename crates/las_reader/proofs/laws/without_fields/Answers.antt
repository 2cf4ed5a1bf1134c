use Rattle.las_reader.proofs.Plain as law
use Rattle.las_reader.proofs.laws.without_fields.Goals as goal

pub returns : goal.returns
returns c = law.without_fields
