-- How far the leaves of a tree are read whose turns end at the first fault.
use Rattle.std.specs.Prelude.{◌≡◌, ℕ, ◌+◌, ◌-◌, ◌*◌, ◌^◌, ◌<◌, ◌≤◌, Bool, true, false, cond, List, [], length, Option, Some, None, slice_get}
use Rattle.cloud_points.specs.declared.faults.StageFault.{StageFault}
use Rattle.cloud_points.specs.declared.work.Work.{Ghosts}
use Rattle.network_theory.specs.Ahead.{AreUnder, CountsPoints, KeepsCount, sum_under}
use Rattle.network_theory.specs.Forest.{children}
use Rattle.network_theory.specs.Net.{count_points}
use Rattle.network_core.specs.declared.node.Node.{Node}
use Rattle.network_core.specs.Shown.{shown, work_of}
use Rattle.network_solo.specs.Trees.{NoneCame, LeavesTell}

-- how many points a leaf still tells
abbrev pub told_by : {W S : Type 0} → Ghosts W S → Node W → ℕ
told_by g n = cond (g.leaf (work_of n)) (count_points (g.told (work_of n))) 0

-- turns of a tree's nodes ended at this fault of node i, which counts what it takes; each node under it that takes points gives on as many
pub record EndedAtNode {W S : Type 0} (g : Ghosts W S) (ins : List (List ℕ)) (old new : List (Node W)) (i : ℕ) (under : ℕ → Bool) (seen : S → ℕ) (number : StageFault → ℕ) (f : StageFault) : Type 0 where
  pub under_it : AreUnder (children ins) (length old - 1) i under
  pub keeps : (k : ℕ) (n : Node W) → slice_get old k ≡ Some n → under k ≡ true → g.leaf (work_of n) ≡ false → KeepsCount (g.meaning (work_of n))
  pub first : Node W
  pub at : slice_get old i ≡ Some first
  pub inner : g.leaf (work_of first) ≡ false
  pub counts : CountsPoints (g.meaning (work_of first)) seen number
  pub none : seen (g.state (work_of first)) ≡ 0
  pub sound : (k : ℕ) (m : Node W) → slice_get new k ≡ Some m → under k ≡ true → (shown g [] m).machine.fault ≡ None
  pub last : Node W
  pub there : slice_get new i ≡ Some last
  pub faulty : (shown g [] last).machine.fault ≡ Some f
  -- its number is told
  pub told : number f < 2 ^ 64 - 1

-- so many at a node, and at all nodes under another
abbrev pub at_node : {W : Type 0} → (Node W → ℕ) → Option (Node W) → ℕ
at_node f None = 0
at_node f (Some n) = f n

abbrev pub sum_at : {W : Type 0} → (ℕ → Bool) → (Node W → ℕ) → List (Node W) → ℕ
sum_at under f nodes = sum_under under (λ k. at_node f (slice_get nodes k)) (length nodes)

-- how many points a leaf read beyond those that it gave
abbrev pub read_beyond : {W S : Type 0} → Ghosts W S → Node W → ℕ
read_beyond g n = cond (g.leaf (work_of n)) (g.ahead (work_of n)) 0

-- what a leaf read beyond is at most a chunk
abbrev pub BeginsNear : {W S : Type 0} → Ghosts W S → List (Node W) → Type 0
BeginsNear {W} g nodes = (k : ℕ) (n : Node W) → slice_get nodes k ≡ Some n → g.leaf (work_of n) ≡ true → g.ahead (work_of n) ≤ (shown g [] n).chunk

-- what the leaves under it gave, and what they read beyond, is at most as many points as come before that of the fault, those of full queues,
-- and one chunk for each node and one more
abbrev pub IsReadAhead : {W S : Type 0} → Ghosts W S → List (List ℕ) → ℕ → List (Node W) → List (Node W) → Type 0
IsReadAhead {W} {S} g ins capacity old new = NoneCame g old new → LeavesTell g old → BeginsNear g old → (chunk : ℕ) → ((k : ℕ) (n : Node W) → slice_get old k ≡ Some n → (shown g [] n).chunk ≤ chunk)
    → (i : ℕ) (under : ℕ → Bool) (seen : S → ℕ) (number : StageFault → ℕ) (f : StageFault) → EndedAtNode g ins old new i under seen number f
    → sum_at under (told_by g) old + sum_at under (read_beyond g) new ≤ sum_at under (told_by g) new + number f + ((length old - 1) * capacity + (length old - 1 + 2)) * chunk
