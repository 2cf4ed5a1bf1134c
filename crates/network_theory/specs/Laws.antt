-- The laws of every schedule.
use Rattle.std.specs.Prelude.{◌≡◌, ℕ, ◌+◌, ◌*◌, ◌<◌, ◌≤◌, true, false, List, length, ◌++◌, None, Bool}
use Rattle.cloud_points.specs.Meaning.{KeepsCutting}
use Rattle.cloud_points.specs.Marks.{Item, all_marks}
use Rattle.network_theory.specs.Carried.{Carried, only_input}
use Rattle.cloud_points.specs.Queue.{IsQueue, has_end}
use Rattle.network_theory.specs.Net.{Net, Choice, IsAllowed, turn_at, works, step, rest, IsQuiet, turn, Node}
use Rattle.network_theory.specs.Shape.{ins_of}
use Rattle.network_theory.specs.Sound.{IsSound}
use Rattle.network_theory.specs.Opening.{IsOpening}
use Rattle.network_theory.specs.Due.{IsBelow, due, total}
use Rattle.network_theory.specs.Flight.{hand_points, in_flight}
use Rattle.network_theory.specs.Ahead.{told_at, sum_under, EndedAt}
use Rattle.network_theory.specs.History.{number_of, ends_all, held, given_by, taken_from, mark_points, points_taken_by, brings}
use Rattle.cloud_points.specs.Flows.{Flow}
use Rattle.network_theory.specs.Streaming.{IsStreaming, StreamsAt}
use Rattle.network_theory.specs.Schedule.{run_schedule, IsSchedule, IsAllowedRun, IsQuietRun, KeepsLaws, IsFinal, end_of}

-- each edge keeps the rule of a queue for what was given to it and taken from it, and a node is done exactly where it gave its End
pub record KeepsQueues {S P F : Type 0} (net : Net S P F) (root cap : ℕ) (ts : List (ℕ × Choice S P F)) : Type 0 where
  pub queue : (k : ℕ) → k < root → IsQueue number_of ends_all (given_by net root cap ts k) (taken_from net root cap ts k) (held (run_schedule net root cap ts) k) cap
  -- each item that is held has a number
  pub level : (k : ℕ) → k < root → length ((run_schedule net root cap ts).numbers k) ≡ length ((run_schedule net root cap ts).edge k)
  pub done : (k : ℕ) → k ≤ root → ((run_schedule net root cap ts).node k).done ≡ has_end number_of ends_all (given_by net root cap ts k)

abbrev pub QueuesKeepOrder : Type 0 → Type 0 → Type 0 → Type 0
QueuesKeepOrder S P F = (net : Net S P F) (root cap : ℕ) (ts : List (ℕ × Choice S P F)) → IsOpening net root → IsSchedule root ts → KeepsQueues net root cap ts

-- without an event what is still to come stays
abbrev pub RestStays : Type 0 → Type 0 → Type 0 → Type 0
RestStays S P F = (net : Net S P F) (root cap : ℕ) (ts : List (ℕ × Choice S P F)) → IsOpening net root → KeepsLaws net → IsQuietRun net root cap ts →
    (k : ℕ) → rest (run_schedule net root cap ts) k ≡ rest net k

-- the points in flight are at most those of full queues and one chunk for each node
abbrev pub FlightIsBounded : Type 0 → Type 0 → Type 0 → Type 0
FlightIsBounded S P F = (net : Net S P F) (root cap chunk : ℕ) (ts : List (ℕ × Choice S P F)) → IsOpening net root → KeepsLaws net → ((k : ℕ) → (net.node k).chunk ≤ chunk) → IsAllowedRun net root cap ts →
    in_flight (run_schedule net root cap ts) root ≤ (root * cap + (root + 1)) * chunk

-- where turns ended at a fault of a node, the leaves under it gave at most as many points as come before that of the fault, those of full
-- queues and one chunk for each node, and one chunk more; so it is with what they read beyond, if that and what is in the hand fit a chunk
abbrev pub LeavesReadAhead : Type 0 → Type 0 → Type 0 → Type 0
LeavesReadAhead S P F = (net : Net S P F) (root cap chunk i : ℕ) (under : ℕ → Bool) (ts : List (ℕ × Choice S P F)) (seen : S → ℕ) (number : F → ℕ) (f : F) (spare : ℕ → ℕ) →
    IsOpening net root → IsSchedule root ts → KeepsLaws net → ((k : ℕ) → (net.node k).chunk ≤ chunk) → IsAllowedRun net root cap ts → IsQuietRun net root cap ts → EndedAt net root cap i under ts seen number f →
    ((k : ℕ) → hand_points ((run_schedule net root cap ts).node k).hand + spare k ≤ chunk) →
    sum_under under (told_at net) (root + 1) + sum_under under spare (root + 1) ≤ sum_under under (told_at (run_schedule net root cap ts)) (root + 1) + number f + (root * cap + (root + 2)) * chunk

-- while a node is not done, some node's turn does work, whatever its event
abbrev pub SomeNodeMoves : Type 0 → Type 0 → Type 0 → Type 0
SomeNodeMoves S P F = (net : Net S P F) (root cap : ℕ) (ts : List (ℕ × Choice S P F)) → IsOpening net root → 0 < cap →
    (k : ℕ) → k ≤ root → ((run_schedule net root cap ts).node k).done ≡ false →
    (j : ℕ) × (j ≤ root) × ((ch : Choice S P F) → works (turn_at (run_schedule net root cap ts) root cap j ch).turned ≡ true)

-- a turn that does work lowers what is due, and any other changes nothing
pub record LowersDue {S P F : Type 0} (net : Net S P F) (root cap : ℕ) (below : ℕ → ℕ) (i : ℕ) (ch : Choice S P F) : Type 0 where
  pub falls : works (turn_at net root cap i ch).turned ≡ true → due (step net root cap i ch) below (root + 1) < due net below (root + 1)
  pub stays : works (turn_at net root cap i ch).turned ≡ false → step net root cap i ch ≡ net

abbrev pub DueFalls : Type 0 → Type 0 → Type 0 → Type 0
DueFalls S P F = (net : Net S P F) (root cap : ℕ) (ts : List (ℕ × Choice S P F)) (below : ℕ → ℕ) → IsOpening net root → IsBelow (ins_of net) root below →
    (i : ℕ) (ch : Choice S P F) → i ≤ root → IsAllowed ch ((run_schedule net root cap ts).node i) → LowersDue (run_schedule net root cap ts) root cap below i ch

-- what an opening net owes
abbrev pub OpeningOwes : Type 0 → Type 0 → Type 0 → Type 0
OpeningOwes S P F = (net : Net S P F) (root : ℕ) (below : ℕ → ℕ) → IsOpening net root → IsBelow (ins_of net) root below →
    due net below (root + 1) ≤ 2 * (root + 1) * (total (λ k. (net.node k).points_left) (root + 1) + total (λ k. (net.node k).views_left) (root + 1) + (root + 1))

-- all schedules without events that end, end each node alike, as what was to come at the start says
pub record EndAlike {S P F : Type 0} (net : Net S P F) (root cap : ℕ) (ts us : List (ℕ × Choice S P F)) (k : ℕ) : Type 0 where
  pub alike : end_of ((run_schedule net root cap ts).node k) ≡ end_of ((run_schedule net root cap us).node k)
  pub in_rest : end_of ((run_schedule net root cap ts).node k) ≡ rest net k

abbrev pub SchedulesAgree : Type 0 → Type 0 → Type 0 → Type 0
SchedulesAgree S P F = (net : Net S P F) (root cap : ℕ) (ts us : List (ℕ × Choice S P F)) → IsOpening net root → KeepsLaws net → IsQuietRun net root cap ts → IsQuietRun net root cap us →
    IsFinal (run_schedule net root cap ts) root → IsFinal (run_schedule net root cap us) root → (k : ℕ) → k ≤ root → EndAlike net root cap ts us k

-- without an event, what a node took and what its inputs still bring are the points that they brought at the start
abbrev pub PointsComeInOrder : Type 0 → Type 0 → Type 0 → Type 0
PointsComeInOrder S P F = (net : Net S P F) (root cap : ℕ) (ts : List (ℕ × Choice S P F)) → IsOpening net root → KeepsLaws net → IsQuietRun net root cap ts →
    (k : ℕ) → mark_points (brings net k) ≡ points_taken_by net root cap ts k ++ mark_points (brings (run_schedule net root cap ts) k)

-- a net at its start is sound, and stays so
abbrev pub NetsStaySound : Type 0 → Type 0 → Type 0 → Type 0
NetsStaySound S P F = (net : Net S P F) (root cap : ℕ) (ts : List (ℕ × Choice S P F)) → IsOpening net root → IsSound (run_schedule net root cap ts)

-- a turn without an event takes items a of the current input and gives items b, and carries the ones to the others
abbrev pub TurnsCarry : Type 0 → Type 0 → Type 0 → Type 0
TurnsCarry S P F = (root : Bool) (cap : ℕ) (ch : Choice S P F) (n : Node S P F) (input out : List (Item P)) → KeepsCutting n.work →
    (n.leaf ≡ false → n.done ≡ false → n.ending ≡ false → n.hand ≡ None → n.machine.ended < n.machine.inputs) → IsQuiet ch n →
    (a : List (Item P)) × (b : List (Item P)) × (input ≡ a ++ (turn root cap ch n input out).input) × (root ≡ false → (turn root cap ch n input out).out ≡ out ++ b)
    × Carried n (turn root cap ch n input out).node (only_input n.machine.ended a) (all_marks b)

-- where each leaf of a net at its start tells a flow and each other node makes one of those of its children, all take, give and end so
abbrev pub FlowsAreStreamed : Type 0 → Type 0 → Type 0 → Type 0
FlowsAreStreamed S P F = (net : Net S P F) (root : ℕ) (value : ℕ → Flow P) → IsOpening net root → IsStreaming net root value → (k : ℕ) → k ≤ root → StreamsAt net value k
