use Rattle.std.proofs.Common.{◌≡◌}
use Rattle.set_filters.proofs.Givings.{joined}
use Rattle.set_filters.proofs.filtering.merge.Given as goal

abbrev pub invariant-loop-v : goal.invariant-loop-v
invariant-loop-v l = l.given ≡ joined l.views.views l.v
