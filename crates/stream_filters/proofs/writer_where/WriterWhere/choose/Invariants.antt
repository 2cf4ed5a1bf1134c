use Rattle.std.proofs.Common.{◌≡◌, ◌≤◌, length, take, drop}
use Rattle.std.specs.Prelude.{filter}
use Rattle.stage_meanings.specs.Conditions.{passes}
use Rattle.stage_meanings.specs.Filters.{is_true, first_unjudged}
use Rattle.stream_filters.proofs.writer_where.WriterWhere.choose.Given as goal

-- those that were chosen, and the first without a value among the others
abbrev pub invariant-loop-at : goal.invariant-loop-at
invariant-loop-at l = record {
  chosen : l.chosen.items ≡ filter (λ p. is_true (passes l.self.only p)) (take l.at l.points);
  first : first_unjudged (passes l.self.only) l.at (drop l.at l.points) ≡ first_unjudged (passes l.self.only) 0 l.points;
  few : length l.chosen.items ≤ l.at;
  most : length l.points ≤ 64;
}
