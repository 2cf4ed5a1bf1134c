-- What a tree with options stands for.
use Rattle.std.specs.Prelude.{List}
use Rattle.stage_options.specs.declared.stage.StageSpec.{StageSpec}
use Rattle.stage_options.specs.declared.tree.Tree.{Tree}

-- its stages, in the order of the text
abbrev pub specs_view : Tree → List StageSpec
specs_view t = t.stages.items
