use Rattle.stage_meanings.specs.Conditions.{passes}
use Rattle.stage_meanings.specs.ByRule.{steps_of}
use Rattle.stream_filters.proofs.Judging.{Judging}
use Rattle.stream_filters.proofs.judge.judge_each.Given as goal
use Rattle.std.proofs.Common.{◌≡◌, length}

abbrev pub invariant-loop-at : goal.invariant-loop-at
invariant-loop-at g l = Judging (steps_of (g.R.PointRule.rule l.rule) (passes l.only)) l.initial.spot l.initial.points l.spot l.at l.kept l.points × (l.at-end ≡ length l.initial.points)
