-- How far leaves are read ahead of a node.
use Rattle.std.specs.Prelude.{◌≡◌, ◌≢◌, ◌<◌, ◌≤◌, ◌⊎◌, ⊤, ℕ, ◌+◌, ◌-◌, ◌^◌, Bool, true, false, cond, List, [], ◌∷◌, length, Some, None, is_some}
use Rattle.cloud_points.specs.Meaning.{Meaning}
use Rattle.cloud_points.specs.Queue.{up_to_limit}
use Rattle.network_theory.specs.Net.{Net, Choice, count_points, step}
use Rattle.network_theory.specs.Shape.{Each, ins_of}
use Rattle.network_theory.specs.Schedule.{run_schedule}
use Rattle.network_theory.specs.Due.{total}
use Rattle.network_theory.specs.Flight.{hand_points, points_on}

-- which nodes stand under node i: its children, and theirs
pub record AreUnder (ins : ℕ → List ℕ) (root i : ℕ) (under : ℕ → Bool) : Type 0 where
  pub self : under i ≡ false
  pub top : under root ≡ false
  pub within : (k : ℕ) → under k ≡ true → k ≤ root
  pub child : (k : ℕ) → (under k ≡ true) ⊎ (k ≡ i) → Each (λ j. under j ≡ true) (ins k)
  pub other : (k : ℕ) → under k ≡ false → k ≢ i → Each (λ j. under j ≡ false) (ins k)

-- a work that gives on as many points as it takes, where it has no fault on them
abbrev pub KeepsCount : {S P F : Type 0} → Meaning S P F → Type 0
KeepsCount {S} {P} m = (s : S) (ps : List P) → m.fault s ps ≡ None → length (m.emit s ps) ≡ length ps

-- how many points a leaf still tells, and how many wait in a node's hand and on the edge above it
abbrev pub told_at : {S P F : Type 0} → Net S P F → ℕ → ℕ
told_at net k = cond (net.node k).leaf (count_points (net.node k).told) 0

abbrev pub waits_at : {S P F : Type 0} → Net S P F → ℕ → ℕ
waits_at net k = hand_points (net.node k).hand + points_on (net.edge k)

-- so many at all nodes under another
abbrev pub sum_under : (ℕ → Bool) → (ℕ → ℕ) → ℕ → ℕ
sum_under under f count = total (λ k. cond (under k) (f k) 0) count

-- no node under another has a fault
abbrev pub AreSoundUnder : {S P F : Type 0} → (ℕ → Bool) → Net S P F → Type 0
AreSoundUnder under net = (k : ℕ) → under k ≡ true → (net.node k).machine.fault ≡ None

-- none has one before or behind any of these turns
abbrev pub StaySoundUnder : {S P F : Type 0} → (ℕ → Bool) → Net S P F → ℕ → ℕ → List (ℕ × Choice S P F) → Type 0
StaySoundUnder under net root cap [] = AreSoundUnder under net
StaySoundUnder under net root cap (t ∷ ts) = AreSoundUnder under net × StaySoundUnder under (step net root cap t.0 t.1) root cap ts

-- no node up to the root has a fault
abbrev pub IsClean : {S P F : Type 0} → Net S P F → ℕ → Type 0
IsClean net root = (k : ℕ) → k ≤ root → is_some (net.node k).machine.fault ≡ false

-- before each of these turns no node had a fault
abbrev pub AreClean : {S P F : Type 0} → Net S P F → ℕ → ℕ → List (ℕ × Choice S P F) → Type 0
AreClean net root cap [] = ⊤
AreClean net root cap (t ∷ ts) = IsClean net root × AreClean (step net root cap t.0 t.1) root cap ts

-- a work whose state counts the points that it takes, up to the greatest u64: a fault on some has the number of one that comes then, or of
-- a later one
pub record CountsPoints {S P F : Type 0} (m : Meaning S P F) (seen : S → ℕ) (number : F → ℕ) : Type 0 where
  pub points : (s : S) (ps : List P) → m.fault s ps ≡ None → seen (m.after s ps) ≡ up_to_limit (seen s + length ps)
  pub view : (s : S) → seen (m.at_view s).0 ≡ seen s
  pub last : (s : S) (cut : Bool) → seen (m.at_end s cut).0 ≡ seen s
  pub fault : (s : S) (ps : List P) (f : F) → m.fault s ps ≡ Some f → seen s ≤ number f

-- turns that ended at a fault of node i, where the nodes under it that take points give on as many, and it counts what it takes
pub record EndedAt {S P F : Type 0} (net : Net S P F) (root cap i : ℕ) (under : ℕ → Bool) (ts : List (ℕ × Choice S P F)) (seen : S → ℕ) (number : F → ℕ) (f : F) : Type 0 where
  pub under_it : AreUnder (ins_of net) root i under
  pub keeps : (k : ℕ) → under k ≡ true → (net.node k).leaf ≡ false → KeepsCount (net.node k).work
  pub inside : i ≤ root
  pub inner : (net.node i).leaf ≡ false
  pub counts : CountsPoints (net.node i).work seen number
  pub none : seen (net.node i).machine.state ≡ 0
  pub clean : AreClean net root cap ts
  pub sound : AreSoundUnder under (run_schedule net root cap ts)
  pub faulty : ((run_schedule net root cap ts).node i).machine.fault ≡ Some f
  -- its number is told
  pub told : number f < 2 ^ 64 - 1
