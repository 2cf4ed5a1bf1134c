use Rattle.std.proofs.Common.{◌≡◌, ◌≤◌, ◌++◌, drop, length, vec_len}
use Rattle.std.specs.Prelude.{vec_capacity}
use Rattle.pipeline_json.specs.Shown.{stages_view}
use Rattle.stage_typing.specs.TypedTree.{specs_of, options_fault}
use Rattle.stage_typing.proofs.trees.type_stages.Given as goal

abbrev pub invariant-loop-i : goal.invariant-loop-i
invariant-loop-i l = record {
  rest : options_fault 0 (stages_view l.list) ≡ options_fault l.i (stages_view (drop l.i l.list));
  done : specs_of (stages_view l.list) ≡ l.specs.items ++ specs_of (stages_view (drop l.i l.list));
  count : vec_len l.specs ≡ l.i;
  room : length l.list ≤ vec_capacity l.specs;
}
