use Rattle.std.proofs.Common.{◌≡◌, ◌++◌, map, drop}
use Rattle.serde_json.specs.View.{view}
use Rattle.pipeline_json.specs.Shown.{stages_view}
use Rattle.pipeline_json.specs.Stages.{place_or_0}
use Rattle.pipeline_json.proofs.takes.places.Given as goal

abbrev pub invariant-loop-value : goal.invariant-loop-value
invariant-loop-value l = map (place_or_0 (stages_view l.earlier)) (map view l.items) ≡ l.ins.items ++ map (place_or_0 (stages_view l.earlier)) (map view (drop l.value-index l.items))
