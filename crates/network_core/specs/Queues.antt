-- Queues that are lent to a turn.
use Rattle.std.specs.Prelude.{ℕ, List, [], Option, Some, None, ◌⊎◌}
use Rattle.std.proofs.Common.{inl, inr}
use Rattle.std.specs.Borrow.{MutBor}
use Rattle.circular_buffer.specs.Buffer.{Buffer}
use Rattle.cloud_points.specs.declared.item.Item as code

-- the items of a queue that may be lent, none where none is
abbrev pub lent_items : Option (MutBor (Buffer code.Item)) → List code.Item
lent_items None = []
lent_items (Some q) = q.now.items

abbrev pub room : Option (MutBor (Buffer code.Item)) → ℕ
room None = 0
room (Some q) = q.now.capacity

abbrev pub room_left : (Unit {0}) ⊎ ((MutBor (Buffer code.Item) × Unit {0}) ⊎ ⊥) → ℕ
room_left (inl u) = 0
room_left (inr (inl f)) = f.0.now.capacity
room_left (inr (inr h)) = 0

-- what is left of them
abbrev pub left_items : (Unit {0}) ⊎ ((MutBor (Buffer code.Item) × Unit {0}) ⊎ ⊥) → List code.Item
left_items (inl u) = []
left_items (inr (inl f)) = f.0.now.items
left_items (inr (inr h)) = []
