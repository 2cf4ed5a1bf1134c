use Rattle.std.proofs.Common.{pos, ap, sym, ◌∙◌}
use Rattle.std.proofs.lemmas.Option.{get_or_from_slice_get}
use Rattle.cloud_points.specs.Points.{zero_point}
use Rattle.tile_filters.specs.Tiles.{square_of}
use Rattle.tile_filters.proofs.tiles.BySquarePointKey.key_at.Goals as goal

pub returns : goal.returns
returns c = c.square.ensures ∙ ap (square_of (pos c.args.self.now.length.0.by) c.args.self.now.x c.args.self.now.y) (sym (get_or_from_slice_get c.args.rows.now.points c.args.k c.get.result zero_point c.get.ensures.value))
