use Rattle.std.proofs.Common.{sym, subst}
use Rattle.pipeline_json.specs.Trees.{IsTree}
use Rattle.stage_options.specs.Shapes.{shapes}
use Rattle.stage_typing.proofs.Shaped.{shaped_tree}
use Rattle.pipeline_json.specs.Shown.{stages_view}
use Rattle.stage_typing.proofs.trees.type_tree.Goals as goal

pub new-requires : goal.new-requires
new-requires c = record {
  is_tree = subst (λ xs. IsTree (shapes xs)) (sym c.in_ok-specs.ensures.ok) (shaped_tree (stages_view c.as_slice.result.now) c.as_slice.ensures.is_tree);
}
