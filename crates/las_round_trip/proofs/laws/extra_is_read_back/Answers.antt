use Rattle.las_round_trip.proofs.Extra.{extra_again}
use Rattle.las_round_trip.proofs.laws.extra_is_read_back.Goals as goal

pub returns : goal.returns
returns c = extra_again
