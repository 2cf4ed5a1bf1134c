-- What a clause sees of a queue between two threads and of its ends.
use Rattle.std.specs.Prelude.{◌≡◌, ◌&&◌, ◌==◌, nat_lt, ℕ, ◌-◌, ◌^◌, ◌<◌, Bool, true, false, List, [], ◌∷◌, ◌++◌, length, Option, Some, None}
use Rattle.atomic_table.specs.Seated.{TableId}
use Rattle.crossbeam_queue.specs.Passes.{Pass, view, IsPassOf, ruled_capacity}
use Rattle.crossbeam_queue.specs.declared.array_queue.Slotted.{Slotted}
use Rattle.crossbeam_queue.specs.declared.array_queue.Doing.{Doing}
use Rattle.cloud_points.specs.declared.point.Point.{Point}
use Rattle.cloud_points.specs.declared.item.Item.{Item}
use Rattle.cloud_points.specs.Queue.{IsQueue, up_to_limit, has_end}
use Rattle.chunk_queue.specs.declared.known.Known.{Known}
use Rattle.chunk_queue.specs.declared.tag.Tag.{Tag}
use Rattle.chunk_queue.specs.Slots.{tag_item, brings_points}
use Rattle.chunk_queue.specs.Rule.{item_number, item_ends}

-- the end that sends, with all that was sent
pub record OutSeen : Type 0 where
  pub queue : TableId
  pub capacity : ℕ
  pub sent : List Item

-- the end that takes, with all that was got
pub record InSeen : Type 0 where
  pub queue : TableId
  pub capacity : ℕ
  pub got : List Item

pub record QueueSeen : Type 0 where
  pub capacity : ℕ
  pub fresh : Bool

abbrev pub out_seen : TableId → ℕ → List Item → OutSeen
out_seen queue capacity sent = record { queue = queue; capacity = capacity; sent = sent }

abbrev pub in_seen : TableId → ℕ → List Item → InSeen
in_seen queue capacity got = record { queue = queue; capacity = capacity; got = got }

-- an end once an item more was sent, or got
abbrev pub sends : OutSeen → Item → OutSeen
sends out item = out_seen out.queue out.capacity (out.sent ++ item ∷ [])

abbrev pub takes : InSeen → Item → InSeen
takes inn item = in_seen inn.queue inn.capacity (inn.got ++ item ∷ [])

-- an End is among the items
abbrev pub ended : List Item → Bool
ended items = has_end item_number item_ends items

-- as many were got as were sent, and fewer than the greatest count
abbrev pub are_counts_equal : List Item → List Item → Bool
are_counts_equal got sent = (up_to_limit (length got) == up_to_limit (length sent)) && nat_lt (up_to_limit (length sent)) (2 ^ 64 - 1)

-- what a pass of such a queue knows
abbrev pub knows : Pass Item (Known Item) → Known Item
knows p = view p

module _ {Q A : Type 0} (line : Slotted (Option Item) (Doing Item (Known Item)) Q A) (pass : Pass Item (Known Item)) where
  -- an end of this queue with this pass
  abbrev pub seen_out : OutSeen
  seen_out = out_seen line.table.shared.table_id (ruled_capacity line) (knows pass).sent

  abbrev pub seen_in : InSeen
  seen_in = in_seen line.table.shared.table_id (ruled_capacity line) (knows pass).got

  pub record IsOut (n : ℕ) : Type 0 where
    pub queue : IsPassOf line pass
    pub role : (knows pass).sends ≡ true
    pub room : (knows pass).room ≡ ruled_capacity line
    pub count : n ≡ up_to_limit (length (knows pass).sent)

  pub record IsIn (n : ℕ) (e : Bool) : Type 0 where
    pub queue : IsPassOf line pass
    pub role : (knows pass).gets ≡ true
    pub room : (knows pass).room ≡ ruled_capacity line
    pub count : n ≡ up_to_limit (length (knows pass).got)
    pub end : e ≡ ended (knows pass).got

-- the rule of a queue
abbrev pub Holds : List Item → List Item → List Item → ℕ → Type 0
Holds sent got held capacity = IsQueue item_number item_ends sent got held capacity

-- at a step of the call the rule held of a queue that was so
abbrev pub HadRoom : OutSeen → Type 0
HadRoom out = (got : List Item) × (held : List Item) × Holds out.sent got held out.capacity × (length held < out.capacity)

abbrev pub WasFull : OutSeen → Type 0
WasFull out = (got : List Item) × (held : List Item) × Holds out.sent got held out.capacity × (length held ≡ out.capacity)

abbrev pub WasEmpty : InSeen → Type 0
WasEmpty inn = (sent : List Item) × Holds sent inn.got [] inn.capacity

abbrev pub WasFirst : InSeen → Item → Type 0
WasFirst inn item = (sent : List Item) × (held : List Item) × Holds sent inn.got (item ∷ held) inn.capacity

-- a pop in parts
pub record TookItem (old new : InSeen) (tag : Tag) (before after : List Point) : Type 0 where
  pub took : new ≡ takes old (tag_item tag after)
  pub first : WasFirst old (tag_item tag after)
  pub others : brings_points tag.kind ≡ false → after ≡ before
  pub points : brings_points tag.kind ≡ true → 0 < length after

abbrev pub IsTaken : InSeen → InSeen → Option Tag → List Point → List Point → Type 0
IsTaken old new None before after = (new ≡ old) × WasEmpty old × (after ≡ before)
IsTaken old new (Some tag) before after = TookItem old new tag before after
