-- What is in a hand: a kind, and the points of a spread.
use Rattle.std.specs.Prelude.{Bool, false, List, Option, Some, None}
use Rattle.cloud_points.specs.declared.point.Point.{Point}
use Rattle.cloud_points.specs.Marks.{Item}
use Rattle.cloud_points.specs.Bodies.{seen}
use Rattle.chunk_queue.specs.declared.tag.ItemKind.{ItemKind}
use Rattle.chunk_queue.specs.Slots.{kind_body, brings_points}

abbrev pub kind_item : ItemKind → List Point → Item Point
kind_item kind ps = seen (kind_body kind ps)

abbrev pub seen_hand : Option ItemKind → List Point → Option (Item Point)
seen_hand None ps = None
seen_hand (Some kind) ps = Some (kind_item kind ps)

abbrev pub holds_points : Option ItemKind → Bool
holds_points None = false
holds_points (Some kind) = brings_points kind
