use Rattle.las_round_trip.proofs.Computed.{all_defaults, header_alone, two_points, heights, old_two_points}
use Rattle.las_round_trip.proofs.examples.files_become_bytes.Goals as goal

pub returns : goal.returns
returns c = record { all_defaults = all_defaults; header_alone = header_alone; two_points = two_points; heights = heights; old_two_points = old_two_points }
