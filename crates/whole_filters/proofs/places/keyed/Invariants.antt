use Rattle.whole_filters.specs.Places.{AreKeyed}
use Rattle.whole_filters.proofs.places.keyed.Given as goal

abbrev pub invariant-loop-place : goal.invariant-loop-place
invariant-loop-place l = AreKeyed l.dim l.down l.points l.place l.entries.items
