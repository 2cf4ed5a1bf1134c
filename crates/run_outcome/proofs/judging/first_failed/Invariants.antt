use Rattle.std.proofs.Common.{◌≡◌, ◌<◌, ℕ, None}
use Rattle.run_outcome.specs.Faults.{fault_at}
use Rattle.run_outcome.specs.Outcomes.{device_op}
use Rattle.run_outcome.proofs.judging.first_failed.Given as goal

-- no earlier stage has one
abbrev pub invariant-loop-i : goal.invariant-loop-i
invariant-loop-i l = (j : ℕ) → j < l.i → device_op (fault_at l.faults j) ≡ None
