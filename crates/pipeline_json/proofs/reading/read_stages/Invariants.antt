use Rattle.std.proofs.Common.{◌≡◌, [], drop, length, map}
use Rattle.serde_json.specs.View.{view}
use Rattle.pipeline_json.specs.Shown.{stages_view}
use Rattle.pipeline_json.specs.Trees.{stages_of}
use Rattle.pipeline_json.proofs.reading.read_stages.Given as goal

abbrev pub invariant-loop-i : goal.invariant-loop-i
invariant-loop-i l = record {
  rest : stages_of [] (map view l.list) ≡ stages_of (stages_view l.stages.items) (map view (drop l.i l.list));
  many : length l.stages.items ≡ l.i;
}
