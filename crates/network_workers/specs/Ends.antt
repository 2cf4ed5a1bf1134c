-- The ends of queues that the nodes of one worker read and send on.
use Rattle.std.specs.Prelude.{◌≡◌, ℕ, ◌==◌, ◌&&◌, Bool, cond, List, [], ◌∷◌, ◌++◌, length, drop, Option, Some, None}
use Rattle.std.proofs.Common.{suc}
use Rattle.cloud_points.specs.declared.point.Point.{Point}
use Rattle.cloud_points.specs.declared.item.Item.{Item}
use Rattle.cloud_points.specs.Bodies.{bodies}
use Rattle.cloud_points.specs.Marks.{Mark, all_marks}
use Rattle.chunk_queue.specs.Ends.{InSeen, OutSeen, in_seen, out_seen}
use Rattle.network_workers.specs.declared.seats.SeatIn.{SeatIn}

-- whether an end is that of this input of this seat
abbrev pub is_at : SeatIn → ℕ → ℕ → Bool
is_at e seat input = (e.seat == seat) && (e.input == input)

-- the end of an input of a seat, the first that is listed, and its place
abbrev pub end_of : List SeatIn → ℕ → ℕ → Option InSeen
end_of [] seat input = None
end_of (x ∷ xs) seat input = cond (is_at x seat input) (Some x.end) (end_of xs seat input)

abbrev pub first_at : List SeatIn → ℕ → ℕ → ℕ
first_at [] seat input = 0
first_at (x ∷ xs) seat input = cond (is_at x seat input) 0 (suc (first_at xs seat input))

-- what was got on an end, and sent on one
abbrev pub got_on : Option InSeen → List Item
got_on None = []
got_on (Some e) = e.got

abbrev pub sent_on : Option OutSeen → List Item
sent_on None = []
sent_on (Some o) = o.sent

abbrev pub got_of : List SeatIn → ℕ → ℕ → List Item
got_of ins seat input = got_on (end_of ins seat input)

-- what came behind a list
abbrev pub since : List Item → List Item → List Item
since old new = drop (length old) new

-- an end of the same queue that took more
abbrev pub InGrew : InSeen → InSeen → Type 0
InGrew old new = new ≡ in_seen old.queue old.capacity (old.got ++ since old.got new.got)

pub record EntryGrew (old new : SeatIn) : Type 0 where
  pub seat : new.seat ≡ old.seat
  pub input : new.input ≡ old.input
  pub end : InGrew old.end new.end

abbrev pub EndsGrew : List SeatIn → List SeatIn → Type 0
EndsGrew [] [] = Unit {0}
EndsGrew (x ∷ xs) (y ∷ ys) = EntryGrew x y × EndsGrew xs ys
EndsGrew _ _ = ⊥

-- the end of an input of a seat before and after
abbrev pub EndGrew : Option InSeen → Option InSeen → Type 0
EndGrew None None = Unit {0}
EndGrew (Some a) (Some b) = InGrew a b
EndGrew _ _ = ⊥

-- an end of the same queue that sent more
abbrev pub OutGrew : Option OutSeen → Option OutSeen → Type 0
OutGrew None None = Unit {0}
OutGrew (Some a) (Some b) = b ≡ out_seen a.queue a.capacity (a.sent ++ since a.sent b.sent)
OutGrew _ _ = ⊥

-- what a seat took of each input, as marks
abbrev pub took_of : ℕ → List SeatIn → List SeatIn → ℕ → List (Mark Point)
took_of seat old new input = all_marks (bodies (since (got_of old seat input) (got_of new seat input)))
