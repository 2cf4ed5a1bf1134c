use Rattle.std.proofs.Common.{◌≡◌, ◌-◌, find, not, length}
use Rattle.std.specs.List.{range_with_len}
use Rattle.pipeline_json.specs.Lists.{has}
use Rattle.pipeline_json.specs.Shown.{stages_view}
use Rattle.pipeline_json.specs.Stages.{taken}
use Rattle.pipeline_json.specs.Trees.{loose}
use Rattle.pipeline_json.proofs.takes.loose.Given as goal

abbrev pub invariant-loop-number : goal.invariant-loop-number
invariant-loop-number l = loose (stages_view l.stages) ≡ find (λ j. not (has (taken (stages_view l.stages)) j)) (range_with_len l.number (length l.stages - 1 - l.number))
