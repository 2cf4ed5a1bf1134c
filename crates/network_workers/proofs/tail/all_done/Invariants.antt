use Rattle.std.proofs.Common.{ℕ, ◌<◌}
use Rattle.std.specs.Prelude.{slice_index_or}
use Rattle.network_workers.specs.Seats.{AreDone}
use Rattle.network_workers.proofs.tail.all_done.Given as goal

abbrev pub invariant-loop-i : goal.invariant-loop-i
invariant-loop-i g l = (j : ℕ) (d : _) → j < l.i → AreDone (slice_index_or l.deals j d).seats.items
