use Rattle.std.proofs.Common.{◌≡◌, ◌++◌, ◌-◌, filter, not, length}
use Rattle.std.specs.List.{range_with_len}
use Rattle.pipeline_json.specs.Lists.{has}
use Rattle.pipeline_json.specs.Shown.{stages_view}
use Rattle.pipeline_json.specs.Stages.{pile, taken}
use Rattle.pipeline_json.proofs.takes.pile.Given as goal

abbrev pub invariant-loop-number : goal.invariant-loop-number
invariant-loop-number l = pile (stages_view l.stages) ≡ l.ins.items ++ filter (λ j. not (has (taken (stages_view l.stages)) j)) (range_with_len l.number (length l.stages - l.number))
