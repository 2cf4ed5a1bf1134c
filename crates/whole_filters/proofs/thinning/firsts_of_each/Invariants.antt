use Rattle.std.proofs.Common.{◌≡◌}
use Rattle.std.specs.Prelude.{flat_map}
use Rattle.whole_filters.specs.Whole.{first_of_each}
use Rattle.whole_filters.proofs.thinning.firsts_of_each.Given as goal

abbrev pub invariant-loop-view : goal.invariant-loop-view
invariant-loop-view g l = l.made.items ≡ flat_map (first_of_each g.K.Key.PartialEq.eq (g.K.PointKey.key l.by)) l.yielded
