use Rattle.whole_filters.specs.Places.{AreRaised}
use Rattle.whole_filters.proofs.places.raised_keys.Given as goal

abbrev pub invariant-loop-place : goal.invariant-loop-place
invariant-loop-place l = AreRaised l.dim l.down l.points l.place l.keys.items
