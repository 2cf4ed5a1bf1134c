use Rattle.std.proofs.Common.{◌≡◌, drop}
use Rattle.stage_meanings.specs.Conditions.{passes}
use Rattle.stage_meanings.specs.Filters.{why, first_from}
use Rattle.set_filters.specs.Kinds.{rule_of}
use Rattle.set_filters.proofs.stops.first_in.Given as goal

-- the points that are still to be judged
abbrev pub invariant-loop-k : goal.invariant-loop-k
invariant-loop-k l = first_from (why (rule_of l.filter) (passes l.only)) l.k (drop l.k l.points) ≡ first_from (why (rule_of l.filter) (passes l.only)) 0 l.points
