use Rattle.std.proofs.Common.{pos, ap, sym, ◌∙◌}
use Rattle.std.proofs.lemmas.Option.{get_or_from_slice_get}
use Rattle.cloud_points.specs.Points.{zero_point}
use Rattle.tile_filters.specs.Tiles.{voxel_of}
use Rattle.tile_filters.proofs.tiles.ByVoxelPointKey.key_at.Goals as goal

pub returns : goal.returns
returns c = c.voxel.ensures ∙ ap (voxel_of (pos c.args.self.now.0.0.by)) (sym (get_or_from_slice_get c.args.rows.now.points c.args.k c.get.result zero_point c.get.ensures.value))
