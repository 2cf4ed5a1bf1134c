use Rattle.std.proofs.Common.{◌≡◌, ◌++◌, take, drop}
use Rattle.pipeline_json.specs.Lists.{has_twice}
use Rattle.pipeline_json.specs.Shown.{stages_view}
use Rattle.pipeline_json.specs.Stages.{taken}
use Rattle.pipeline_json.proofs.takes.has_twice.Given as goal

abbrev pub invariant-loop-at : goal.invariant-loop-at
invariant-loop-at l = has_twice (taken (stages_view l.earlier)) l.ins ≡ has_twice (taken (stages_view l.earlier) ++ take l.at l.ins) (drop l.at l.ins)
