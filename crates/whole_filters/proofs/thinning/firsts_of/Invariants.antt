use Rattle.std.proofs.Common.{◌≡◌, map, length}
use Rattle.std.specs.List.{list_any}
use Rattle.std.specs.HashSet as table
use Rattle.whole_filters.specs.Whole.{distinct}
use Rattle.whole_filters.proofs.Walking.{HoldsBefore}
use Rattle.whole_filters.proofs.thinning.firsts_of.Given as goal

-- the first points of those that were given, and all their keys
abbrev pub invariant-loop-seen : goal.invariant-loop-seen
invariant-loop-seen g l =
    let eq = g.K.Key.PartialEq.eq in
    let key = g.K.PointKey.key l.by in
    HoldsBefore l.fn.view l.points (λ before. (l.made ≡ distinct (λ p q. eq (key p) (key q)) before)
    × ((q : _) → table.contains eq l.seen q ≡ list_any (eq q) (map key before)))

abbrev pub decreases-loop-seen : goal.decreases-loop-seen
decreases-loop-seen g l = length l.points
