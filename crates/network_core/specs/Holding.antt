-- What the sinks of works hold, through turns.
use Rattle.std.specs.Prelude.{◌≡◌, ◌≢◌, true, List, [], ◌++◌, Option, None}
use Rattle.cloud_points.specs.declared.point.Point.{Point}
use Rattle.cloud_points.specs.declared.faults.StageFault.{StageFault}
use Rattle.cloud_points.specs.declared.work.Work.{Ghosts}
use Rattle.network_core.specs.declared.node.Node.{Node}
use Rattle.network_core.specs.Calm.{NoEvent}

-- the work holds all that it held
abbrev pub KeepsHolding : {W S : Type 0} (g : Ghosts W S) → Node W → Node W → Type 0
KeepsHolding g old new = (before : List Point) → g.holds old.work before ≡ true → g.holds new.work before ≡ true

-- besides what it held a work holds a beginning of the points that its node took: all of them while the node has no fault, and
-- none where it had one before
pub record HoldsBesides {W S : Type 0} (g : Ghosts W S) (before_fault fault : Option StageFault) (work : W) (before taken : List Point) : Type 0 where
  pub part : List Point
  pub rest : List Point
  pub whole : taken ≡ part ++ rest
  pub all : fault ≡ None → rest ≡ []
  pub still : before_fault ≢ None → part ≡ []
  pub holds : g.holds work (before ++ part) ≡ true

-- it does so where no event came
abbrev pub HoldsMore : {W S : Type 0} (g : Ghosts W S) → Node W → Node W → List Point → Type 0
HoldsMore g old new taken = NoEvent g old new → (before : List Point) → g.holds old.work before ≡ true → HoldsBesides g old.fault new.fault new.work before taken
