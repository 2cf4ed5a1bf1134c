use Rattle.std.proofs.Common.{◌≡◌}
use Rattle.stage_meanings.specs.Conditions.{passes}
use Rattle.stage_meanings.specs.Filters.{on_view}
use Rattle.set_filters.specs.Kinds.{rule_of}
use Rattle.set_filters.proofs.Givings.{made_of}
use Rattle.set_filters.proofs.filtering.filter_part.Given as goal

abbrev pub invariant-loop-v : goal.invariant-loop-v
invariant-loop-v l = l.given ≡ made_of (on_view (rule_of l.filter) (passes l.only)) l.views.views l.v
