use Rattle.std.proofs.Common.{ap, ◌∙◌, w64}
use Rattle.std.proofs.lemmas.Int.{to_z-of_z}
use Rattle.std.proofs.lemmas.Result.{IfOk-weaker}
use Rattle.whole_filters.specs.Whole.{whole_set}
use Rattle.tile_filters.specs.Tiles.{voxels}
use Rattle.tile_filters.proofs.tiles.voxel_first.Goals as goal

pub returns : goal.returns
returns c =
    IfOk-weaker c.first_of_each.result _ _
    (λ made e. e ∙ ap (λ n. whole_set (voxels n) c.args.v) (c.new.ensures ∙ to_z-of_z w64 c.args.cell c.ranges.cell)) c.first_of_each.ensures
