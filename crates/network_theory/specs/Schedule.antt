-- Whole schedules.
use Rattle.std.specs.Prelude.{◌≡◌, ℕ, ◌≤◌, true, cond, List, [], ◌∷◌, Some, None}
use Rattle.cloud_points.specs.Meaning.{KeepsCutting}
use Rattle.cloud_points.specs.Queue.{up_to_limit}
use Rattle.network_theory.specs.Net.{Net, Node, Choice, IsQuiet, IsAllowed, step, Last}
use Rattle.network_theory.specs.Shape.{Each}

-- one turn after the other: a node's number and the turn's event
abbrev pub run_schedule : {S P F : Type 0} → Net S P F → ℕ → ℕ → List (ℕ × Choice S P F) → Net S P F
run_schedule net root cap [] = net
run_schedule net root cap (t ∷ ts) = run_schedule (step net root cap t.0 t.1) root cap ts

-- all turns are those of nodes of the net
abbrev pub IsSchedule : {S P F : Type 0} → ℕ → List (ℕ × Choice S P F) → Type 0
IsSchedule {S} {P} {F} root ts = Each (λ (t : ℕ × Choice S P F). t.0 ≤ root) ts

-- each event is one that may be
abbrev pub IsAllowedRun : {S P F : Type 0} → Net S P F → ℕ → ℕ → List (ℕ × Choice S P F) → Type 0
IsAllowedRun net root cap [] = Unit {0}
IsAllowedRun net root cap (t ∷ ts) = IsAllowed t.1 (net.node t.0) × IsAllowedRun (step net root cap t.0 t.1) root cap ts

-- no turn met an event, and all leaves tell
abbrev pub IsQuietRun : {S P F : Type 0} → Net S P F → ℕ → ℕ → List (ℕ × Choice S P F) → Type 0
IsQuietRun net root cap [] = Unit {0}
IsQuietRun net root cap (t ∷ ts) = IsQuiet t.1 (net.node t.0) × IsQuietRun (step net root cap t.0 t.1) root cap ts

-- each node's work keeps the law of cutting
abbrev pub KeepsLaws : {S P F : Type 0} → Net S P F → Type 0
KeepsLaws net = (k : ℕ) → KeepsCutting (net.node k).work

-- all nodes are done
abbrev pub IsFinal : {S P F : Type 0} → Net S P F → ℕ → Type 0
IsFinal net root = (k : ℕ) → k ≤ root → (net.node k).done ≡ true

-- how a node has ended, once it is done
abbrev pub end_of : {S P F : Type 0} → Node S P F → Last S F
end_of n = record { machine = cond n.leaf None (Some n.machine); fault = n.machine.fault; views = up_to_limit n.views; points = up_to_limit n.points }
