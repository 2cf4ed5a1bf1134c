use Rattle.las_round_trip.proofs.SamePoints.{points_again}
use Rattle.las_round_trip.proofs.laws.points_are_read_back.Goals as goal

pub returns : goal.returns
returns c = points_again
