use Rattle.geo_tests.proofs.Outside.{outside}
use Rattle.geo_tests.proofs.laws.rings_lie_in_their_extent.Goals as goal

pub returns : goal.returns
returns c = outside
