use Rattle.std.proofs.Common.{◌≡◌, map, take}
use Rattle.whole_filters.proofs.places.places_of.Given as goal

abbrev pub invariant-loop-entry : goal.invariant-loop-entry
invariant-loop-entry l = l.places.items ≡ map (λ e. e.place) (take l.entry-index l.entries)
