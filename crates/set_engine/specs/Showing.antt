-- Works that are shown points one after the other.
use Rattle.std.specs.Prelude.{◌≡◌, false, List, Option, None}
use Rattle.cloud_points.specs.Flows.{Flow}
use Rattle.cloud_points.specs.Marks.{Mark, piece_marks}
use Rattle.cloud_points.specs.Meaning.{Meaning}
use Rattle.cloud_points.specs.declared.work.Work.{Ghosts}
use Rattle.network_theory.specs.Machine.{after_all, at_start, output}

-- it takes points, has no device, and takes no memory, nor does a work that means the same
pub record IsPlain {W S : Type 0} (g : Ghosts W S) (w : W) : Type 0 where
  pub inner : g.leaf w ≡ false
  pub op : g.op w ≡ None
  pub ample : (v : W) → g.meaning v ≡ g.meaning w → g.short v ≡ false

-- a work that began at one state was shown these marks, has this state and this fault behind them, and gave this of them
pub record WasShown {S P F : Type 0} (m : Meaning S P F) (begun : S) (marks : List (Mark P)) (given : Flow P) (state : S) (fault : Option F) : Type 0 where
  pub reached : after_all m (at_start 1 begun) marks ≡ record (at_start 1 state) { fault = fault }
  pub gave : output m (at_start 1 begun) marks ≡ piece_marks given
