use Rattle.std.proofs.Common.{◌≡◌, ℕ, ◌<◌, false}
use Rattle.network_workers.specs.Stopping.{stops_in}
use Rattle.network_workers.proofs.stopping.some_ends.Given as goal

abbrev pub invariant-loop-at : goal.invariant-loop-at
invariant-loop-at g l = (k : ℕ) → k < l.at → stops_in l.stop l.seats k ≡ false
