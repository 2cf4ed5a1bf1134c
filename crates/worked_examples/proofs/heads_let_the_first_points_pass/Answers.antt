use Rattle.worked_examples.proofs.Parts.{one_passes, no_point_passes, tagged_passes}
use Rattle.worked_examples.proofs.heads_let_the_first_points_pass.Goals as goal

pub returns : goal.returns
returns c = record { one = one_passes; none = no_point_passes; tagged = tagged_passes }
