-- What a tree stands for.
use Rattle.std.specs.Prelude.{List}
use Rattle.pipeline_json.specs.Stages.{Stage}
use Rattle.pipeline_json.specs.Shown.{stages_view}
use Rattle.pipeline_json.specs.declared.tree.RawTree.{RawTree}

-- its stages, in the order of the text
abbrev pub tree_view : RawTree → List Stage
tree_view t = stages_view t.stages.items
