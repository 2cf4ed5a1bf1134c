-- An item that is taken apart from its points.
use Rattle.std.specs.Prelude.{◌≡◌, ◌<◌, true, false, List, length}
use Rattle.cloud_points.specs.declared.point.Point.{Point}
use Rattle.cloud_points.specs.declared.item.Item.{Item}
use Rattle.cloud_points.specs.declared.item.Body.{Body}
use Rattle.cloud_points.specs.declared.item.Body.TheVariants.{Points, EndView, End}
use Rattle.chunk_queue.specs.declared.tag.Tag.{Tag}
use Rattle.chunk_queue.specs.Slots.{tag_item, brings_points}

-- its tag, and what stands in a spread before and after its points were put there
pub record IsOpened (whole : Item) (tag : Tag) (before after : List Point) : Type 0 where
  pub item : whole ≡ tag_item tag after
  pub others : brings_points tag.kind ≡ false → after ≡ before
  pub points : brings_points tag.kind ≡ true → 0 < length after

-- the points of what an item brings are these, where it brings points
abbrev pub LieIn : Body → List Point → Type 0
LieIn (Points ps) slot = slot ≡ ps
LieIn EndView slot = Unit {0}
LieIn (End cut) slot = Unit {0}
