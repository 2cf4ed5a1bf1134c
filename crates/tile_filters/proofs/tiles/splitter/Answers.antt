use Rattle.std.proofs.Common.{◌∙◌, w64}
use Rattle.std.proofs.lemmas.Int.{to_z-of_z}
use Rattle.std.proofs.lemmas.Result.{IfOk-weaker}
use Rattle.tile_filters.proofs.Squares.{same_squares}
use Rattle.tile_filters.proofs.tiles.splitter.Goals as goal

pub returns : goal.returns
returns c =
    let length = c.new.ensures ∙ to_z-of_z w64 c.args.length c.ranges.length in
    let ox = to_z-of_z w64 c.args.ox c.ranges.ox in
    let oy = to_z-of_z w64 c.args.oy c.ranges.oy in
    IfOk-weaker c.group_by.result _ _ (λ made e. e ∙ same_squares c.args.v _ _ _ _ _ _ length ox oy) c.group_by.ensures
