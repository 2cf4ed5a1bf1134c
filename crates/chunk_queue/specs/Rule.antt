-- The rule of a queue, and that a call keeps it whatever was sent and got before.
use Rattle.std.specs.Prelude.{◌≡◌, ℕ, Bool, false, List, [], ◌∷◌, ◌++◌, length}
use Rattle.circular_buffer.specs.Buffer.{Buffer, buffer}
use Rattle.cloud_points.specs.declared.item.Item.{Item}
use Rattle.cloud_points.specs.Bodies.{body_ends}
use Rattle.cloud_points.specs.Queue.{IsQueue, up_to_limit, has_end}

abbrev pub item_number : Item → ℕ
item_number i = i.no

abbrev pub item_ends : Item → Bool
item_ends i = body_ends i.body

-- the queue holds what was sent and not yet got
abbrev pub StandsBetween : List Item → List Item → Buffer Item → Type 0
StandsBetween sent got queue = IsQueue item_number item_ends sent got queue.items queue.capacity

-- a queue with one item more
abbrev pub with_item : Buffer Item → Item → Buffer Item
with_item queue item = buffer (queue.items ++ item ∷ []) queue.capacity

-- an item that goes in with the next number, and before any End, is the next one sent
abbrev pub KeepsRuleOnPush : Buffer Item → Item → Buffer Item → Type 0
KeepsRuleOnPush old item new = (sent got : List Item) → StandsBetween sent got old
    → item.no ≡ up_to_limit (length sent) → has_end item_number item_ends sent ≡ false
    → StandsBetween (sent ++ item ∷ []) got new

-- an item that comes out is the next one got
abbrev pub KeepsRuleOnPop : Buffer Item → Item → Buffer Item → Type 0
KeepsRuleOnPop old item new = (sent got : List Item) → StandsBetween sent got old → StandsBetween sent (got ++ item ∷ []) new
