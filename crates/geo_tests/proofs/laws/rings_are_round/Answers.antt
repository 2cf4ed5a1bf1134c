use Rattle.geo_tests.proofs.Rounds.{in_polygon-reverse, in_polygon-append, in_polygon-closed}
use Rattle.geo_tests.proofs.laws.rings_are_round.Goals as goal

pub returns : goal.returns
returns c = record {
  turned = in_polygon-reverse;
  begun_elsewhere = in_polygon-append;
  closed = in_polygon-closed;
}
