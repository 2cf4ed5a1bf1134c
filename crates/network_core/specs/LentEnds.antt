-- Ends of queues that are lent to a turn.
use Rattle.std.specs.Prelude.{List, [], length, drop, Option, Some, None, ◌⊎◌}
use Rattle.std.proofs.Common.{inl, inr}
use Rattle.std.specs.Borrow.{MutBor}
use Rattle.cloud_points.specs.declared.item.Item as code
use Rattle.chunk_queue.specs.Ends.{InSeen, OutSeen}

-- an end that may have been lent, once it is back
abbrev pub Left : Type 0 → Type 0
Left E = (Unit {0}) ⊎ ((MutBor E × Unit {0}) ⊎ ⊥)

-- what was got from an end, nothing where none is lent, before and after
abbrev pub lent_got : Option (MutBor InSeen) → List code.Item
lent_got None = []
lent_got (Some q) = q.now.got

abbrev pub left_got : Left InSeen → List code.Item
left_got (inl u) = []
left_got (inr (inl f)) = f.0.now.got
left_got (inr (inr h)) = []

-- what was sent on one
abbrev pub lent_sent : Option (MutBor OutSeen) → List code.Item
lent_sent None = []
lent_sent (Some q) = q.now.sent

abbrev pub left_sent : Left OutSeen → List code.Item
left_sent (inl u) = []
left_sent (inr (inl f)) = f.0.now.sent
left_sent (inr (inr h)) = []

-- what was taken from a lent end, and what was sent on one
abbrev pub taken_lent : Option (MutBor InSeen) → Left InSeen → List code.Item
taken_lent a b = drop (length (lent_got a)) (left_got b)

abbrev pub sent_lent : Option (MutBor OutSeen) → Left OutSeen → List code.Item
sent_lent a b = drop (length (lent_sent a)) (left_sent b)

-- what holds of a lent end, where one is lent
abbrev pub Before : {E : Type 0} → (E → Type 0) → Option (MutBor E) → Type 0
Before P None = Unit {0}
Before P (Some q) = P q.now

abbrev pub After : {E : Type 0} → (E → Type 0) → Left E → Type 0
After P (inl u) = Unit {0}
After P (inr (inl f)) = P f.0.now
After P (inr (inr h)) = ⊥

abbrev pub Between : {E : Type 0} → (E → E → Type 0) → Option (MutBor E) → Left E → Type 0
Between P None b = Unit {0}
Between P (Some q) b = After (P q.now) b
