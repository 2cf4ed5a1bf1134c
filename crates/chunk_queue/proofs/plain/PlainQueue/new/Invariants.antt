use Rattle.std.proofs.Common.{◌≡◌, ◌≤◌, length}
use Rattle.std.specs.Prelude.{vec_capacity}
use Rattle.chunk_queue.proofs.plain.PlainQueue.new.Given as goal

abbrev pub invariant-loop : goal.invariant-loop
invariant-loop l = (length l.free.items ≡ l.counter) × (l.slots ≤ vec_capacity l.free)
