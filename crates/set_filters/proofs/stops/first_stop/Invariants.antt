use Rattle.std.proofs.Common.{◌≡◌, take, None}
use Rattle.cloud_points.specs.Flows.{all_of}
use Rattle.stage_meanings.specs.Conditions.{passes}
use Rattle.stage_meanings.specs.Filters.{why, first_from}
use Rattle.set_filters.specs.Kinds.{rule_of}
use Rattle.set_filters.proofs.stops.first_stop.Given as goal

-- each point of the views before this one can be judged
abbrev pub invariant-loop-view : goal.invariant-loop-view
invariant-loop-view l = first_from (why (rule_of l.filter) (passes l.only)) 0 (all_of (take l.view l.views.views)) ≡ None
