use Rattle.std.proofs.Common.{◌≡◌, drop, take}
use Rattle.std.specs.List.{filter_map}
use Rattle.stage_meanings.specs.Conditions.{passes}
use Rattle.stage_meanings.specs.Filters.{at_point, or_nothing}
use Rattle.set_filters.specs.Kinds.{rule_of}
use Rattle.set_filters.proofs.Givings.{followed}
use Rattle.set_filters.proofs.viewing.filter_each.Given as goal

-- what was put, and what is still to come
abbrev pub invariant-loop-k : goal.invariant-loop-k
invariant-loop-k l =
    followed l.given (filter_map (λ p. or_nothing (at_point (rule_of l.filter) (passes l.only) p)) (drop l.k (take l.count l.view)))
    ≡ followed l.initial.given (filter_map (λ p. or_nothing (at_point (rule_of l.filter) (passes l.only) p)) (take l.count l.view))
