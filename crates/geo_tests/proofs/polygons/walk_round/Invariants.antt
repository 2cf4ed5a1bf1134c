use Rattle.std.proofs.Common.{◌≡◌, ◌∷◌, [], drop}
use Rattle.limits_text.specs.Held.{AreHeld}
use Rattle.geo_tests.specs.Tests.{on_border, is_odd, different, way_round}
use Rattle.geo_tests.proofs.polygons.walk_round.Given as goal

abbrev pub invariant-loop-to : goal.invariant-loop-to
invariant-loop-to l = record {
  held : AreHeld (l.from ∷ []);
  border : on_border (way_round l.corners) l.p ≡ on_border (l.from ∷ drop l.to-index l.corners) l.p;
  odd : is_odd (way_round l.corners) l.p ≡ different l.odd (is_odd (l.from ∷ drop l.to-index l.corners) l.p);
}
