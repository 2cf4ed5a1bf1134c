-- A work on a flow, one mark after the other.
use Rattle.std.specs.Prelude.{ℕ, ◌+◌, ◌==◌, Bool, false, ◌||◌, cond, List, [], ◌∷◌, ◌++◌, map, Option, None, is_some}
use Rattle.cloud_points.specs.Meaning.{Meaning}
use Rattle.cloud_points.specs.Flows.{Flow}
use Rattle.cloud_points.specs.Marks.{Mark, At, View_end, End, flow_marks}

pub record Machine (S F : Type 0) : Type 0 where
  -- the state of the work, and the node's first fault
  pub state : S
  pub fault : Option F
  -- an end that was taken was cut
  pub cut : Bool
  -- how many inputs it has, and how many of them ended
  pub inputs : ℕ
  pub ended : ℕ

abbrev pub is_cut : {S F : Type 0} → Machine S F → Bool
is_cut c = c.cut || is_some c.fault

-- the state once the last input ended
abbrev pub at_last : {S P F : Type 0} → Meaning S P F → Machine S F → Machine S F
at_last m c = record c { state = (m.at_end c.state (is_cut c)).0 }

abbrev pub ending_marks : {S P F : Type 0} → Meaning S P F → Machine S F → List (Mark P)
ending_marks m c = cond ((m.at_end c.state (is_cut c)).1) (View_end ∷ End (is_cut c) ∷ []) (End (is_cut c) ∷ [])

abbrev pub one_end : {S F : Type 0} → Machine S F → Bool → Machine S F
one_end c cut = record c { cut = c.cut || cut; ended = c.ended + 1 }

-- the machine after one mark
abbrev pub next : {S P F : Type 0} → Meaning S P F → Machine S F → Mark P → Machine S F
next m c (At p) = cond (is_some c.fault) c (record c { state = m.after c.state (p ∷ []); fault = m.fault c.state (p ∷ []) })
next m c View_end = cond (is_some c.fault) c (record c { state = (m.at_view c.state).0 })
next m c (End cut) = cond (c.ended + 1 == c.inputs) (at_last m (one_end c cut)) (one_end c cut)

-- what it gives for it
abbrev pub gives : {S P F : Type 0} → Meaning S P F → Machine S F → Mark P → List (Mark P)
gives m c (At p) = cond (is_some c.fault) [] (map At (m.emit c.state (p ∷ [])))
gives m c View_end = cond (is_some c.fault) [] (cond ((m.at_view c.state).1) (View_end ∷ []) [])
gives m c (End cut) = cond (c.ended + 1 == c.inputs) (ending_marks m (one_end c cut)) []

-- after many, and what it gives for them
abbrev pub after_all : {S P F : Type 0} → Meaning S P F → Machine S F → List (Mark P) → Machine S F
after_all m c [] = c
after_all m c (t ∷ ts) = after_all m (next m c t) ts

abbrev pub output : {S P F : Type 0} → Meaning S P F → Machine S F → List (Mark P) → List (Mark P)
output m c [] = []
output m c (t ∷ ts) = gives m c t ++ output m (next m c t) ts

-- a machine of so many inputs at its start
abbrev pub at_start : {S F : Type 0} → ℕ → S → Machine S F
at_start inputs s = record { state = s; fault = None; cut = false; inputs = inputs; ended = 0 }

-- what a work makes of a whole flow from this state on, its fault on that, and its state then
abbrev pub made_of : {S P F : Type 0} → Meaning S P F → S → Flow P → List (Mark P)
made_of m s flow = output m (at_start 1 s) (flow_marks flow)

abbrev pub fault_on : {S P F : Type 0} → Meaning S P F → S → Flow P → Option F
fault_on m s flow = (after_all m (at_start 1 s) (flow_marks flow)).fault

abbrev pub state_after : {S P F : Type 0} → Meaning S P F → S → Flow P → S
state_after m s flow = (after_all m (at_start 1 s) (flow_marks flow)).state
