use Rattle.std.proofs.Common.{◌≡◌, drop, take}
use Rattle.stage_meanings.specs.Conditions.{passes}
use Rattle.stage_meanings.specs.Filters.{chosen, is_true}
use Rattle.set_filters.specs.Kinds.{rule_of, takes}
use Rattle.set_filters.proofs.Givings.{followed}
use Rattle.set_filters.proofs.viewing.filter_places.Given as goal

-- what was put, and what is still to come
abbrev pub invariant-loop-k : goal.invariant-loop-k
invariant-loop-k l =
    followed l.given (chosen (λ p. is_true (passes l.only p)) (takes (rule_of l.filter)) l.place (drop l.k (take l.count l.view)))
    ≡ followed l.initial.given (chosen (λ p. is_true (passes l.only p)) (takes (rule_of l.filter)) 0 (take l.count l.view))
