-- Items that lie in slots of a queue.
use Rattle.std.specs.Prelude.{◌≡◌, ℕ, ◌+◌, ◌<◌, ◌≤◌, Bool, true, false, List, [], ◌∷◌, length, map, slice_get, Option, Some, None}
use Rattle.circular_buffer.specs.Buffer.{Buffer}
use Rattle.cloud_points.specs.declared.point.Point.{Point}
use Rattle.cloud_points.specs.declared.item.Item.{Item}
use Rattle.cloud_points.specs.declared.item.Body.{Body}
use Rattle.cloud_points.specs.declared.item.Body.TheVariants as body
use Rattle.chunk_queue.specs.declared.tag.Tag.{Tag}
use Rattle.chunk_queue.specs.declared.tag.SlottedItem.{SlottedItem}
use Rattle.chunk_queue.specs.declared.tag.ItemKind.{ItemKind}
use Rattle.chunk_queue.specs.declared.tag.ItemKind.TheVariants.{Points, EndView, End}

-- the item of a tag, whose points lie elsewhere
abbrev pub kind_body : ItemKind → List Point → Body
kind_body Points ps = body.Points ps
kind_body EndView ps = body.EndView
kind_body (End cut) ps = body.End cut

abbrev pub tag_item : Tag → List Point → Item
tag_item tag ps = record { no = tag.no; body = kind_body tag.kind ps }

abbrev pub brings_points : ItemKind → Bool
brings_points Points = true
brings_points EndView = false
brings_points (End cut) = false

-- what stands in a spread once an item's points were put there
abbrev pub filled : ItemKind → List Point → List Point → List Point
filled Points old ps = ps
filled EndView old ps = old
filled (End cut) old ps = old

-- the items of a queue's entries
abbrev pub entry_item : SlottedItem → Item
entry_item e = tag_item e.tag e.slot.value.items

abbrev pub held_items : List SlottedItem → List Item
held_items entries = map entry_item entries

-- an item that brings points has some
abbrev pub HasPoints : Body → Type 0
HasPoints (body.Points ps) = 0 < length ps
HasPoints body.EndView = Unit {0}
HasPoints (body.End cut) = Unit {0}

abbrev pub AllHavePoints : List Item → Type 0
AllHavePoints [] = Unit {0}
AllHavePoints (i ∷ is) = HasPoints i.body × AllHavePoints is

-- for each item that may still come there is a free slot, and the list of free slots takes all of them back without more memory
pub record IsSlotted (entries : Buffer SlottedItem) (free most : ℕ) : Type 0 where
  pub slots : entries.capacity ≤ length entries.items + free
  pub room : length entries.items + free ≤ most
  pub points : AllHavePoints (held_items entries.items)

-- the item that a pop answers in parts is the first one, and None comes exactly where there is none
abbrev pub IsPopped : List Item → Option Tag → List Point → List Point → Type 0
IsPopped held None old new = (held ≡ []) × (new ≡ old)
IsPopped held (Some tag) old new = (slice_get held 0 ≡ Some (tag_item tag new)) × (brings_points tag.kind ≡ false → new ≡ old) × (brings_points tag.kind ≡ true → 0 < length new)
