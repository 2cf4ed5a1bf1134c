use Rattle.std.proofs.Common.{◌≡◌, ℕ, ◌<◌, false}
use Rattle.network_workers.specs.Stopping.{stops_among}
use Rattle.network_workers.proofs.tail.some_end.Given as goal

abbrev pub invariant-loop-i : goal.invariant-loop-i
invariant-loop-i g l = (i k : ℕ) → i < l.i → stops_among l.stop l.deals (i, k) ≡ false
