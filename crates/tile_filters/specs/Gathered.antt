-- What a stage that needs whole views makes of a flow.
use Rattle.std.specs.Ordering.{int_eq}
use Rattle.cloud_points.specs.Flows.{Flow}
use Rattle.cloud_points.specs.Points.{key_of}
use Rattle.cloud_points.specs.declared.point.Point.{Point}
use Rattle.whole_filters.specs.Whole.{whole_set, sorted, last_of, groups}
use Rattle.whole_filters.specs.declared.gathering.Gathering.{Gathering}
use Rattle.whole_filters.specs.declared.gathering.Gathering.TheVariants.{Sort, Tail, GroupBy, Squares, Voxels}
use Rattle.tile_filters.specs.Tiles.{squares, voxels}

-- a stage's views are those of its filter
abbrev pub gathered : Gathering → Flow Point → Flow Point
gathered (Sort dim down) f = whole_set (sorted (λ p. key_of p dim) down) f
gathered (Tail count) f = whole_set (last_of count) f
gathered (GroupBy dim) f = whole_set (groups int_eq (λ p. key_of p dim)) f
gathered (Squares by) f = whole_set (squares by.length by.x by.y) f
gathered (Voxels edge) f = whole_set (voxels edge) f
