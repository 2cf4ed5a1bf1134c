use Rattle.std.proofs.Common.{◌≡◌, ◌≤◌, ◌++◌, drop, length, option_map, vec_len}
use Rattle.std.specs.Prelude.{vec_capacity}
use Rattle.serde_json.specs.View.{items_view}
use Rattle.stage_options.specs.Expressions.{all_assignments}
use Rattle.stage_options.proofs.values.assignments.Given as goal

abbrev pub invariant-loop-value : goal.invariant-loop-value
invariant-loop-value l = record {
  read : all_assignments (items_view l.values) ≡ option_map (λ more. l.list.items ++ more) (all_assignments (items_view (drop l.value-index l.values)));
  count : vec_len l.list ≡ l.value-index;
  room : length l.values ≤ vec_capacity l.list;
}
