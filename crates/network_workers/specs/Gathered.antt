-- The nodes that were dealt to workers, taken back, and what they carried.
use Rattle.std.specs.Prelude.{◌≡◌, ◌⊎◌, ℕ, ◌+◌, ◌-◌, ◌<◌, ◌≤◌, ◌==◌, Bool, true, false, Option, Some, None}
use Rattle.std.specs.Prelude.{List, [], ◌∷◌, ◌++◌, length, take, drop, replicate, slice_get, slice_index_or, slice_set}
use Rattle.cloud_points.specs.declared.point.Point.{Point}
use Rattle.cloud_points.specs.declared.item.Item.{Item}
use Rattle.cloud_points.specs.declared.work.Work.{Ghosts}
use Rattle.cloud_points.specs.Bodies.{bodies}
use Rattle.cloud_points.specs.Marks.{Mark, all_marks}
use Rattle.chunk_queue.specs.Ends.{InSeen, OutSeen, ended}
use Rattle.network_theory.specs.Between.{Between, QuietBetween}
use Rattle.network_theory.specs.Forest.{children, count_in, count_all, IsForest}
use Rattle.network_theory.specs.History.{mark_points}
use Rattle.network_theory.specs.Sound.{IsNode}
use Rattle.network_core.specs.declared.node.Node.{Node}
use Rattle.network_core.specs.declared.stop.Stop.{Stop}
use Rattle.network_core.specs.declared.stop.Stop.TheVariants.{First}
use Rattle.network_core.specs.Calm.{Calm, NoEvent, Told}
use Rattle.network_core.specs.Holding.{HoldsMore}
use Rattle.network_core.specs.Shown.{shown}
use Rattle.network_solo.specs.Stopping.{AllDone, SomeFault}
use Rattle.network_solo.specs.Trees.{AreFresh}
use Rattle.network_workers.specs.declared.seats.Deal.{Deal}
use Rattle.network_workers.specs.declared.seats.SeatIn.{SeatIn}
use Rattle.network_workers.specs.Dealt.{places, dealt, AreOpened, HandsCarry}
use Rattle.network_workers.specs.Ends.{sent_on, OutGrew}
use Rattle.network_workers.specs.Seats.{DealsFit, DealsDone}
use Rattle.network_workers.specs.Stopping.{stops_among, Somewhere}

-- a node from its start to the end of its turns, which took this of each input. Without an event it carried that to what it gave,
-- and that was sent on its end, but at the root
pub record NodeCarries {W S : Type 0} (g : Ghosts W S) (root : Bool) (old new : Node W) (took : ℕ → List (Mark Point))
    (sent : List (Mark Point)) : Type 0 where
  pub calm : Calm g old new
  pub between : Between (shown g [] old) (shown g [] new) took
  pub holds : HoldsMore g old new (mark_points between.took)
  pub gave : NoEvent g old new → Told g old → List (Mark Point)
  pub same : (none : NoEvent g old new) (told : Told g old) → root ≡ false → gave none told ≡ sent
  pub quiet : (none : NoEvent g old new) (told : Told g old)
      → QuietBetween (shown g [] old) (shown g [] new) took (gave none told)
  pub sound : IsNode (shown g (replicate new.inputs 0) new)

-- what was sent on the end of each node, what each took of its inputs, and what is left there
pub record Carriage : Type 0 where
  pub sent : ℕ → List (Mark Point)
  pub took : ℕ → ℕ → List (Mark Point)
  pub left : ℕ → ℕ → List (Mark Point)

-- what the first nodes took of each input is a first part of what the child there sent
abbrev pub AreParts : Carriage → List (List ℕ) → ℕ → Type 0
AreParts c ins count = (k input child : ℕ) → k < count → slice_get (children ins k) input ≡ Some child → c.took k input ++ c.left k input ≡ c.sent child

-- each node took of each input a first part of what the child there sent, and all of it where it is done
pub record AreCarried {W S : Type 0} (g : Ghosts W S) (ins : List (List ℕ)) (old new : List (Node W)) : Type 0 where
  pub count : length new ≡ length old
  pub carriage : Carriage
  pub parts : AreParts carriage ins (length old)
  pub nodes : (k : ℕ) (n m : Node W) → slice_get old k ≡ Some n → slice_get new k ≡ Some m
      → NodeCarries g (k + 1 == length old) n m (carriage.took k) (carriage.sent k)
  pub whole : (k : ℕ) (m : Node W) → slice_get new k ≡ Some m → m.done ≡ true → (input : ℕ) → carriage.left k input ≡ []

-- and all are done, so that all was taken that was sent
pub record AreSettled {W S : Type 0} (g : Ghosts W S) (ins : List (List ℕ)) (old new : List (Node W)) : Type 0 where
  pub carried : AreCarried g ins old new
  pub done : AllDone g new

-- nodes at their start, with the two ends of the queue above each but the root
pub record Opened (W : Type 0) : Type 0 where
  pub nodes : List (Node W)
  pub outs : List OutSeen
  pub inns : List InSeen

-- a tree of new nodes with queues on which nothing was sent yet
pub record IsStart {W S : Type 0} (g : Ghosts W S) (ins : List (List ℕ)) (start : Opened W) : Type 0 where
  pub some : 0 < length start.nodes
  pub fresh : AreFresh g ins start.nodes
  pub forest : IsForest ins (length start.nodes - 1)
  pub opened : AreOpened (length start.nodes - 1) start.outs start.inns

-- the tree whose nodes took turns, and where these ended
pub record Turned (W : Type 0) : Type 0 where
  pub start : Opened W
  pub stop : Stop

-- the end of a node that was taken back before its parent, on which this was sent
pub record IsKept (old new : Option OutSeen) (sent : List (Mark Point)) : Type 0 where
  pub grew : OutGrew old new
  pub all : sent ≡ all_marks (bodies (sent_on new))

-- turns on these deals, and on nodes that were taken back of them, are over: all are done, or one has a fault at which they end
abbrev pub IsOverFor : {W S : Type 0} (g : Ghosts W S) → Stop → List (Deal W) → List (Node W) → Type 0
IsOverFor g stop deals nodes = (DealsDone deals × AllDone g nodes)
    ⊎ ((stop ≡ First) × (Somewhere (stops_among First deals) ⊎ SomeFault g nodes))

-- the nodes before this place were taken back, each with the end on which it sent, and the others are in the deals of the workers to
-- whom they go
pub record AreTakenBack {W S : Type 0} (g : Ghosts W S) (stop : Stop) (start : Opened W) (ins : List (List ℕ)) (goes : List ℕ) (place : ℕ)
    (deals : List (Deal W)) (nodes : List (Node W)) (outs : List (Option OutSeen)) : Type 0 where
  pub hands : HandsCarry g
      (dealt goes (length deals) place (places place (drop place start.nodes) ins start.outs start.inns)) deals
  pub fit : DealsFit g deals
  pub over : IsOverFor g stop deals nodes
  pub counts : (length nodes ≡ place) × (length outs ≡ place)
  pub carriage : Carriage
  pub parts : AreParts carriage ins place
  pub carried : (k : ℕ) (n m : Node W) → slice_get start.nodes k ≡ Some n → slice_get nodes k ≡ Some m
      → NodeCarries g (k + 1 == length start.nodes) n m (carriage.took k) (carriage.sent k)
  pub whole : (k : ℕ) (m : Node W) → slice_get nodes k ≡ Some m → m.done ≡ true → (input : ℕ) → carriage.left k input ≡ []
  -- the ends that no parent settled yet
  pub kept : (k : ℕ) → k < place → count_all k (take place ins) ≡ 0
      → IsKept (slice_get start.outs k) (slice_index_or outs k None) (carriage.sent k)

-- the two ends of one queue
abbrev pub AreOfOne : Option OutSeen → InSeen → Type 0
AreOfOne None inn = ⊥
AreOfOne (Some out) inn = out.queue ≡ inn.queue

-- what was got of what was sent is a first part, and all of it where an End was got
pub record IsFirstPart (got sent : List Item) : Type 0 where
  pub left : List Item
  pub part : got ++ left ≡ sent
  pub whole : ended got ≡ true → left ≡ []

-- so it is of what was sent on one end, and got on the other
abbrev pub IsSettled : Option OutSeen → InSeen → Type 0
IsSettled out inn = IsFirstPart inn.got (sent_on out)

-- an end that sends with the last of these
abbrev pub LastEdge : (Option OutSeen → InSeen → Type 0) → Option OutSeen → List SeatIn → Type 0
LastEdge R out ins = (e : SeatIn) → R out (slice_index_or ins (length ins - 1) e).end

-- for each of these children the end on which it sent, with that of the input at which it stands. The ends of the
-- inputs are listed in their order from a place on
abbrev pub EdgesFrom : (Option OutSeen → InSeen → Type 0)
    → List (Option OutSeen) → List ℕ → ℕ → List SeatIn → Type 0
EdgesFrom R outs cs first ins = (k : ℕ) (e : SeatIn) → k < length cs
    → R (slice_index_or outs (slice_index_or cs k 0) None) (slice_index_or ins (first + k) e).end

-- they are the last ones
abbrev pub LastEdges : (Option OutSeen → InSeen → Type 0)
    → List (Option OutSeen) → List ℕ → List SeatIn → Type 0
LastEdges R outs cs ins = EdgesFrom R outs cs (length ins - length cs) ins

-- without the ends of these children
abbrev pub without : List (Option OutSeen) → List ℕ → List (Option OutSeen)
without outs [] = outs
without outs (c ∷ cs) = slice_set (without outs cs) c None

-- without the last ends, which are those of so many inputs
abbrev pub but_last : ℕ → List SeatIn → List SeatIn
but_last count ins = take (length ins - count) ins

-- no child stands twice in a list
abbrev pub AreOnce : List ℕ → Type 0
AreOnce cs = (k : ℕ) → k < length cs → count_in (slice_index_or cs k 0) cs ≤ 1
