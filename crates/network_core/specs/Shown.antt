-- A node of the code as a node of the definitions.
use Rattle.std.specs.Prelude.{ℕ, List, [], Option, Some, None, Bool, false, cond, is_some, nat_lt}
use Rattle.cloud_points.specs.declared.point.Point.{Point}
use Rattle.cloud_points.specs.declared.faults.StageFault.TheVariants as fault
use Rattle.cloud_points.specs.declared.faults.StageFault.{StageFault}
use Rattle.cloud_points.specs.declared.work.Work.{Ghosts}
use Rattle.cloud_points.specs.Marks.{Item}
use Rattle.cloud_points.specs.Events.{ran_short}
use Rattle.network_theory.specs.Net as net
use Rattle.network_core.specs.Hands.{seen_hand}
use Rattle.network_core.specs.declared.node.Node.{Node}
use Rattle.network_core.specs.declared.turned.Turned.{Turned}
use Rattle.network_core.specs.declared.turned.Turned.TheVariants.{Took, Gave, Made, Idle, Done}
use Rattle.network_core.specs.declared.turned.Why.{Why}
use Rattle.network_core.specs.declared.turned.Why.TheVariants.{Empty, Full}

-- the node beside the numbers of its children
abbrev pub shown : {W S : Type 0} (g : Ghosts W S) → List ℕ → Node W → net.Node S Point StageFault
shown g ins n = record {
  work = g.meaning n.work;
  machine = record { state = g.state n.work; fault = n.fault; cut = n.cut; inputs = n.inputs; ended = n.ended };
  chunk = n.chunk;
  leaf = g.leaf n.work;
  told = cond (g.leaf n.work) (g.told n.work) [];
  told_fault = cond (g.leaf n.work) (g.told_fault n.work) None;
  points_left = cond (g.leaf n.work) (g.points_left n.work) 0;
  views_left = cond (g.leaf n.work) (g.views_left n.work) 0;
  hand = seen_hand n.hand n.spread.items;
  ending = n.ending;
  done = n.done;
  ins = ins;
  sent = n.given;
  views = n.views;
  points = n.points;
}

-- a new node
abbrev pub new_node : {W S : Type 0} (g : Ghosts W S) → List ℕ → W → ℕ → ℕ → net.Node S Point StageFault
new_node g ins work inputs chunk = record {
  work = g.meaning work;
  machine = record { state = g.state work; fault = None; cut = false; inputs = inputs; ended = 0 };
  chunk = chunk;
  leaf = g.leaf work;
  told = cond (g.leaf work) (g.told work) [];
  told_fault = cond (g.leaf work) (g.told_fault work) None;
  points_left = cond (g.leaf work) (g.points_left work) 0;
  views_left = cond (g.leaf work) (g.views_left work) 0;
  hand = None;
  ending = false;
  done = false;
  ins = ins;
  sent = 0;
  views = 0;
  points = 0;
}

abbrev pub work_of : {W : Type 0} → Node W → W
work_of n = n.work

-- the input that is being read
abbrev pub current_of : {S P F : Type 0} → net.Node S P F → Option ℕ
current_of n = cond (nat_lt n.machine.ended n.machine.inputs) (Some n.machine.ended) None

-- the event of a call, by its fault and by what it noted
abbrev pub event : {S : Type 0} → Option StageFault → Bool → Bool → S → net.Choice S Point StageFault
event (Some (fault.Device d)) before now s = net.Failed (fault.Device d) s
event (Some (fault.Point p)) before now s = cond (ran_short before now) (net.Short s) net.Quiet
event None before now s = cond (ran_short before now) (net.Short s) net.Quiet

-- the event of a turn that took an item, by the node before and after
abbrev pub chosen : {W S : Type 0} (g : Ghosts W S) → Node W → Node W → net.Choice S Point StageFault
chosen g old new = cond (is_some old.fault) net.Quiet (event new.fault (g.short old.work) (g.short new.work) (g.state new.work))

-- a fault that a leaf did not have before
abbrev pub new_fault : {F : Type 0} → Option F → Option F → Option F
new_fault None now = now
new_fault (Some f) now = None

-- what a leaf made, by the node after
abbrev pub made_choice : {W S : Type 0} (g : Ghosts W S) → Option StageFault → Node W → Option (Item Point) → net.Choice S Point StageFault
made_choice g fault new None = net.Quiet
made_choice g fault new (Some i) = net.Makes i fault (g.state new.work) (g.told new.work) (g.told_fault new.work) (g.points_left new.work) (g.views_left new.work)

-- the event of a turn, by the node before and after
abbrev pub choice : {W S : Type 0} (g : Ghosts W S) → Node W → Node W → net.Choice S Point StageFault
choice g old new = cond (g.leaf old.work) (made_choice g (new_fault old.fault new.fault) new (seen_hand new.hand new.spread.items)) (chosen g old new)

abbrev pub why : Why → net.Why
why Empty = net.Empty
why Full = net.Full

abbrev pub turned : Turned → net.Turned
turned Took = net.Took
turned Gave = net.Gave
turned Made = net.Made
turned (Idle w) = net.Idle (why w)
turned Done = net.Done

-- what a turn left
abbrev pub left : {S : Type 0} → net.Node S Point StageFault → List (Item Point) → List (Item Point) → Turned → net.Outcome S Point StageFault
left n input out t = record { node = n; input = input; out = out; turned = turned t }
