-- How a turn begins, before any queue is touched.
use Rattle.std.specs.Prelude.{◌≡◌, ℕ, List, Bool, true, false, Some, None}
use Rattle.cloud_points.specs.declared.point.Point.{Point}
use Rattle.cloud_points.specs.declared.faults.StageFault.{StageFault}
use Rattle.cloud_points.specs.declared.work.Work.{Ghosts}
use Rattle.cloud_points.specs.Marks.{Item}
use Rattle.network_theory.specs.Net as net
use Rattle.network_core.specs.declared.node.Node.{Node}
use Rattle.network_core.specs.declared.node.Begun.{Begun}
use Rattle.network_core.specs.declared.node.Begun.TheVariants.{Give, Take, Ended}
use Rattle.network_core.specs.declared.turned.Turned.{Turned}
use Rattle.network_core.specs.Shown.{shown, left, turned, choice, made_choice, new_fault}
use Rattle.network_core.specs.Hands.{seen_hand}
use Rattle.network_core.specs.Ruled.{is_read, is_gift}

-- a turn that neither gave nor took
pub record IsStill (t : Turned) : Type 0 where
  pub above : (root : Bool) (ns : List ℕ) (number : ℕ) → net.numbers_above root (turned t) ns number ≡ ns
  pub left : (ns : List ℕ) → net.numbers_left (turned t) ns ≡ ns

abbrev pub Begins : {W S : Type 0} (g : Ghosts W S) → Node W → Node W → Begun → Type 0
Begins g old new (Give kind) = (old.hand ≡ Some kind) × (new ≡ old)
Begins g old new Take = (old.hand ≡ None) × (old.done ≡ false) × (old.ending ≡ false) × (g.leaf old.work ≡ false) × (new ≡ old)
Begins g old new (Ended t) = (old.hand ≡ None) × ((ins : List ℕ) (root : Bool) (cap : ℕ) (input out : List (Item Point)) → left (shown g ins new) input out t ≡ net.with_hand root cap (choice g old new) (shown g ins old) input out None) × IsStill t

-- a turn that was over at once neither read a queue nor gave to one
abbrev pub TouchesNone : Begun → Type 0
TouchesNone (Give kind) = Unit {0}
TouchesNone Take = Unit {0}
TouchesNone (Ended t) = (is_read t ≡ false) × (is_gift t ≡ false)

-- a leaf that is to make its next item
pub record WillMake {W S : Type 0} (g : Ghosts W S) (old : Node W) : Type 0 where
  pub leaf : g.leaf old.work ≡ true
  pub hand : old.hand ≡ None
  pub done : old.done ≡ false
  pub ending : old.ending ≡ false

-- what it made
abbrev pub made_by : {W S : Type 0} (g : Ghosts W S) → Node W → Node W → net.Choice S Point StageFault
made_by g old new = made_choice g (new_fault old.fault new.fault) new (seen_hand new.hand new.spread.items)
