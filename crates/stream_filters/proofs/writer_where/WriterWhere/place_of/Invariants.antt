use Rattle.std.proofs.Common.{◌≡◌, ◌≤◌, length, take}
use Rattle.std.specs.Prelude.{filter}
use Rattle.stage_meanings.specs.Conditions.{passes}
use Rattle.stage_meanings.specs.Filters.{is_true}
use Rattle.stream_filters.proofs.writer_where.WriterWhere.place_of.Given as goal

-- how many of the points before this place pass
abbrev pub invariant-loop-at : goal.invariant-loop-at
invariant-loop-at l = (length (filter (λ p. is_true (passes l.self.only p)) (take l.at l.points)) ≡ l.passed) × (l.passed ≤ l.k) × (l.at-end ≡ length l.points)
