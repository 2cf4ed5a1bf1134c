-- Nodes, edges and turns.
use Rattle.std.specs.Prelude.{◌≡◌, ℕ, ◌+◌, ◌*◌, ◌<◌, ◌≤◌, nat_lt, ◌==◌, Bool, true, false, ◌||◌, cond, List, [], ◌∷◌, ◌++◌, length, drop, Option, Some, None, is_some}
use Rattle.std.proofs.Common.{zero, suc}
use Rattle.cloud_points.specs.Meaning.{Meaning}
use Rattle.cloud_points.specs.Marks.{Mark, At, View_end, End, Item, Points, End_view, End_all, marks, all_marks, to_end, is_end, views_in, points_in}
use Rattle.cloud_points.specs.Events.{first_fault}
use Rattle.cloud_points.specs.Queue.{up_to_limit}
use Rattle.network_theory.specs.Machine.{Machine, is_cut, one_end, at_last, output, after_all}

pub record Node (S P F : Type 0) : Type 0 where
  pub work : Meaning S P F
  -- the state of the work, the first fault, whether a cut end was taken, and how many inputs ended
  pub machine : Machine S F
  -- the most points of an item that a leaf makes
  pub chunk : ℕ
  -- a leaf, and what it still gives
  pub leaf : Bool
  pub told : List (Mark P)
  pub told_fault : Option F
  -- how many points and views a leaf has left at most
  pub points_left : ℕ
  pub views_left : ℕ
  -- what is to be given next
  pub hand : Option (Item P)
  -- its end is still to come, and its end was given
  pub ending : Bool
  pub done : Bool
  -- the numbers of its children, in the order of its inputs
  pub ins : List ℕ
  -- how many items it gave, and what it gave on
  pub sent : ℕ
  pub views : ℕ
  pub points : ℕ

pub record Net (S P F : Type 0) : Type 0 where
  pub node : ℕ → Node S P F
  -- what is on the edge above each node, and the numbers of these items
  pub edge : ℕ → List (Item P)
  pub numbers : ℕ → List ℕ

pub data Why : Type 0 where
  Empty : Why
  Full : Why

pub data Turned : Type 0 where
  Took : Turned
  Gave : Turned
  Made : Turned
  Idle : Why → Turned
  Done : Turned

-- the event of a turn, its one free choice: none; on a taken chunk a device's fault and the state then; want of memory
-- that is noted, and the state then; or what a leaf makes, with its fault, its state, and what it has left then
pub data Choice (S P F : Type 0) : Type 0 where
  Quiet : Choice S P F
  Failed : F → S → Choice S P F
  Short : S → Choice S P F
  Makes : Item P → Option F → S → List (Mark P) → Option F → ℕ → ℕ → Choice S P F

-- points as an item, where there are some
abbrev pub item_of : {P : Type 0} → List P → Option (Item P)
item_of [] = None
item_of (p ∷ ps) = Some (Points (p ∷ ps))

-- the node after it gave an item; giving the end makes it done
abbrev pub given : {S P F : Type 0} → Node S P F → Item P → Node S P F
given n i = record n {
  hand = None;
  done = n.done || is_end i;
  sent = up_to_limit (n.sent + 1);
  views = up_to_limit (n.views + views_in i);
  points = up_to_limit (n.points + points_in i);
}

abbrev pub of_machine : {S P F : Type 0} → Node S P F → Machine S F → Option (Item P) → Bool → Node S P F
of_machine n c hand ending = record n { machine = c; hand = hand; ending = ending }

-- the node after the end that was still to come went into its hand
abbrev pub end_made : {S P F : Type 0} → Node S P F → Node S P F
end_made n = of_machine n n.machine (Some (End_all (is_cut n.machine))) false

-- the node after it took points: what goes on is the hand's, unless it is nothing, and with an event nothing goes on
abbrev pub taken_points : {S P F : Type 0} → Choice S P F → Node S P F → List P → Node S P F
taken_points Quiet n ps = of_machine n (record n.machine { state = n.work.after n.machine.state ps; fault = n.work.fault n.machine.state ps }) (item_of (n.work.emit n.machine.state ps)) false
taken_points (Failed f s) n ps = of_machine n (record n.machine { state = s; fault = Some f }) None false
taken_points (Short s) n ps = of_machine n (record n.machine { state = s }) None false
taken_points (Makes i f s told tf pl vl) n ps = n

-- the node after it took the end of a view
abbrev pub view_hand : {S P F : Type 0} → Node S P F → Option (Item P)
view_hand n = cond ((n.work.at_view n.machine.state).1) (Some End_view) None

abbrev pub taken_view : {S P F : Type 0} → Choice S P F → Node S P F → Node S P F
taken_view Quiet n = of_machine n (record n.machine { state = (n.work.at_view n.machine.state).0 }) (view_hand n) false
taken_view (Short s) n = of_machine n (record n.machine { state = s }) (view_hand n) false
taken_view (Failed f s) n = n
taken_view (Makes i f s told tf pl vl) n = n

-- the node after it took the last end
abbrev pub taken_end : {S P F : Type 0} → Node S P F → Machine S F → Node S P F
taken_end n c = of_machine n (at_last n.work c) (cond ((n.work.at_end c.state (is_cut c)).1) (Some End_view) (Some (End_all (is_cut c)))) ((n.work.at_end c.state (is_cut c)).1)

-- the node after it took an item; a faulted node drops points and ends of views
abbrev pub taken : {S P F : Type 0} → Choice S P F → Node S P F → Item P → Node S P F
taken ch n (Points ps) = cond (is_some n.machine.fault) n (taken_points ch n ps)
taken ch n End_view = cond (is_some n.machine.fault) n (taken_view ch n)
taken ch n (End_all cut) = cond (n.machine.ended + 1 == n.machine.inputs) (taken_end n (one_end n.machine cut)) (of_machine n (one_end n.machine cut) None false)

-- a leaf after it made its next item
abbrev pub makes : {S P F : Type 0} → Choice S P F → Node S P F → Node S P F
makes (Makes i f s told tf pl vl) n = record n { machine = record n.machine { state = s; fault = first_fault n.machine.fault f }; hand = Some i; told = told; told_fault = tf; points_left = pl; views_left = vl }
makes Quiet n = n
makes (Failed f s) n = n
makes (Short s) n = n

-- a node, its current edge and the edge above it after a turn, and what the turn was
pub record Outcome (S P F : Type 0) : Type 0 where
  pub node : Node S P F
  pub input : List (Item P)
  pub out : List (Item P)
  pub turned : Turned

-- the first item of the current edge is taken
abbrev pub takes : {S P F : Type 0} → Choice S P F → Node S P F → List (Item P) → List (Item P) → Outcome S P F
takes ch n [] out = record { node = n; input = []; out = out; turned = Idle Empty }
takes ch n (i ∷ is) out = record { node = taken ch n i; input = is; out = out; turned = Took }

abbrev pub with_hand : {S P F : Type 0} → Bool → ℕ → Choice S P F → Node S P F → List (Item P) → List (Item P) → Option (Item P) → Outcome S P F
with_hand root cap ch n input out (Some i) =
    cond root (record { node = given n i; input = input; out = out; turned = Gave })
    (cond (nat_lt (length out) cap) (record { node = given n i; input = input; out = out ++ i ∷ []; turned = Gave }) (record { node = n; input = input; out = out; turned = Idle Full }))
with_hand root cap ch n input out None =
    cond n.done (record { node = n; input = input; out = out; turned = Done })
    (cond n.ending (record { node = end_made n; input = input; out = out; turned = Made })
    (cond n.leaf (record { node = makes ch n; input = input; out = out; turned = Made })
    (takes ch n input out)))

-- one turn of a node between its current edge and the edge above it
abbrev pub turn : {S P F : Type 0} → Bool → ℕ → Choice S P F → Node S P F → List (Item P) → List (Item P) → Outcome S P F
turn root cap ch n input out = with_hand root cap ch n input out n.hand

-- the inputs that have not ended
abbrev pub open_ins : {S P F : Type 0} → Node S P F → List ℕ
open_ins n = drop n.machine.ended n.ins

abbrev pub in_hand : {P : Type 0} → Option (Item P) → List (Mark P)
in_hand None = []
in_hand (Some i) = marks i

abbrev pub still_end : {S P F : Type 0} → Node S P F → List (Mark P)
still_end n = cond n.ending (End (is_cut n.machine) ∷ []) []

-- the flow that a node still gives, where this is what its inputs still bring
abbrev pub remains : {S P F : Type 0} → Node S P F → List (Mark P) → List (Mark P)
remains n input = in_hand n.hand ++ (still_end n ++ cond n.leaf n.told (output n.work n.machine input))

abbrev pub inputs_of : {P : Type 0} → (ℕ → List (Mark P)) → List ℕ → List (Mark P)
inputs_of f [] = []
inputs_of f (j ∷ js) = to_end (f j) ++ inputs_of f js

-- what still comes over the edge above a node: what is on it, and what the node still gives. The number counts down, and the node's own number and one is enough
abbrev pub flow : {S P F : Type 0} → Net S P F → ℕ → ℕ → List (Mark P)
flow net zero k = []
flow net (suc d) k = all_marks (net.edge k) ++ remains (net.node k) (inputs_of (flow net d) (open_ins (net.node k)))

abbrev pub count_views : {P : Type 0} → List (Mark P) → ℕ
count_views [] = 0
count_views (At p ∷ ms) = count_views ms
count_views (View_end ∷ ms) = 1 + count_views ms
count_views (End c ∷ ms) = count_views ms

abbrev pub count_points : {P : Type 0} → List (Mark P) → ℕ
count_points [] = 0
count_points (At p ∷ ms) = 1 + count_points ms
count_points (View_end ∷ ms) = count_points ms
count_points (End c ∷ ms) = count_points ms

-- how a node ends
pub record Last (S F : Type 0) : Type 0 where
  -- of a leaf this is not asked
  pub machine : Option (Machine S F)
  pub fault : Option F
  pub views : ℕ
  pub points : ℕ

abbrev pub last_of : {S P F : Type 0} → Node S P F → List (Mark P) → Last S F
last_of n input = record {
  machine = cond n.leaf None (Some (after_all n.work n.machine input));
  fault = cond n.leaf (first_fault n.machine.fault n.told_fault) (after_all n.work n.machine input).fault;
  views = up_to_limit (n.views + count_views (remains n input));
  points = up_to_limit (n.points + count_points (remains n input));
}

-- how each node of a net ends, by the state of the net alone
abbrev pub rest : {S P F : Type 0} → Net S P F → ℕ → Last S F
rest net k = last_of (net.node k) (inputs_of (flow net k) (open_ins (net.node k)))

-- the current input's edge
abbrev pub current_edge : {P : Type 0} → (ℕ → List (Item P)) → List ℕ → List (Item P)
current_edge edge [] = []
current_edge edge (j ∷ js) = edge j

abbrev pub is_current : ℕ → List ℕ → Bool
is_current k [] = false
is_current k (j ∷ js) = k == j

abbrev pub turn_at : {S P F : Type 0} → Net S P F → ℕ → ℕ → ℕ → Choice S P F → Outcome S P F
turn_at net root cap i ch = turn (i == root) cap ch (net.node i) (current_edge net.edge (open_ins (net.node i))) (net.edge i)

-- the numbers on the edge above a node, and on its current edge, after a turn
abbrev pub numbers_above : Bool → Turned → List ℕ → ℕ → List ℕ
numbers_above root Gave ns number = cond root ns (ns ++ number ∷ [])
numbers_above root Took ns number = ns
numbers_above root Made ns number = ns
numbers_above root (Idle why) ns number = ns
numbers_above root Done ns number = ns

abbrev pub numbers_left : Turned → List ℕ → List ℕ
numbers_left Took ns = drop 1 ns
numbers_left Gave ns = ns
numbers_left Made ns = ns
numbers_left (Idle why) ns = ns
numbers_left Done ns = ns

-- the net after node i had a turn; an item on an edge has as its number how many items were given before it
abbrev pub with_turn : {S P F : Type 0} → Net S P F → ℕ → ℕ → Outcome S P F → Net S P F
with_turn net root i o = record {
  node = λ k. cond (k == i) o.node (net.node k);
  edge = λ k. cond (k == i) o.out (cond (is_current k (open_ins (net.node i))) o.input (net.edge k));
  numbers = λ k. cond (k == i) (numbers_above (i == root) o.turned (net.numbers k) (net.node i).sent) (cond (is_current k (open_ins (net.node i))) (numbers_left o.turned (net.numbers k)) (net.numbers k));
}

-- a turn of node i
abbrev pub step : {S P F : Type 0} → Net S P F → ℕ → ℕ → ℕ → Choice S P F → Net S P F
step net root cap i ch = with_turn net root i (turn_at net root cap i ch)

-- what a leaf that tells makes is the next part of what it told, and after its end nothing is left
pub record IsNext {P F : Type 0} (i : Item P) (f : Option F) (told told' : List (Mark P)) (fault fault' : Option F) : Type 0 where
  pub part : told ≡ marks i ++ told'
  pub fault_part : fault ≡ first_fault f fault'
  pub last : is_end i ≡ true → told' ≡ []
  pub last_fault : is_end i ≡ true → fault' ≡ None

abbrev pub IsPart : {S P F : Type 0} → Choice S P F → Node S P F → Type 0
IsPart (Makes i f s told tf pl vl) n = IsNext i f n.told told n.told_fault tf
IsPart Quiet n = ⊥
IsPart (Failed f s) n = ⊥
IsPart (Short s) n = ⊥

-- no event: an inner node's calls do what they mean, and a leaf that makes makes the next part of what it tells
pub record IsQuiet {S P F : Type 0} (ch : Choice S P F) (n : Node S P F) : Type 0 where
  pub inner : n.leaf ≡ false → ch ≡ Quiet
  pub leaf : n.leaf ≡ true → n.hand ≡ None → n.done ≡ false → n.ending ≡ false → IsPart ch n

abbrev pub NotEmpty : {P : Type 0} → Item P → Type 0
NotEmpty (Points ps) = 0 < length ps
NotEmpty End_view = Unit {0}
NotEmpty (End_all cut) = Unit {0}

-- a leaf makes 1 to its chunk of points or an end, within its two numbers, and one that faults makes a cut end
pub record IsMade {S P F : Type 0} (n : Node S P F) (i : Item P) (f : Option F) (pl vl : ℕ) : Type 0 where
  pub some : NotEmpty i
  pub most : points_in i ≤ n.chunk
  pub fewer_points : pl + points_in i ≤ n.points_left
  pub fewer_views : vl + views_in i ≤ n.views_left
  pub cut : is_some f ≡ true → i ≡ End_all true

abbrev pub IsWithin : {S P F : Type 0} → Choice S P F → Node S P F → Type 0
IsWithin (Makes i f s told tf pl vl) n = IsMade n i f pl vl
IsWithin Quiet n = ⊥
IsWithin (Failed f s) n = ⊥
IsWithin (Short s) n = ⊥

abbrev pub NotMakes : {S P F : Type 0} → Choice S P F → Type 0
NotMakes (Makes i f s told tf pl vl) = ⊥
NotMakes Quiet = Unit {0}
NotMakes (Failed f s) = Unit {0}
NotMakes (Short s) = Unit {0}

-- what an event may be
pub record IsAllowed {S P F : Type 0} (ch : Choice S P F) (n : Node S P F) : Type 0 where
  pub inner : n.leaf ≡ false → NotMakes ch
  pub leaf : n.leaf ≡ true → n.hand ≡ None → n.done ≡ false → n.ending ≡ false → IsWithin ch n

-- what a node of this depth owes, one less than its depth being e
abbrev pub hand_owes : {P : Type 0} → ℕ → Option (Item P) → ℕ
hand_owes e None = 0
hand_owes e (Some i) = 2 * e + 1

abbrev pub holds_end : {P : Type 0} → Option (Item P) → Bool
holds_end None = false
holds_end (Some i) = is_end i

abbrev pub end_owes : {S P F : Type 0} → ℕ → Node S P F → ℕ
end_owes e n = cond n.leaf (cond (n.done || holds_end n.hand) 0 (2 * e + 2)) (cond (nat_lt n.machine.ended n.machine.inputs) (2 * e + 2) 0)

abbrev pub owes : {S P F : Type 0} → ℕ → Node S P F → ℕ
owes e n = (2 * e + 2) * n.points_left + (2 * e + 2) * n.views_left + end_owes e n + cond n.ending (2 * e + 2) 0 + hand_owes e n.hand

-- with what lies on the edge above it, and on the current edge below it
abbrev pub cost : {S P F : Type 0} → ℕ → Node S P F → List (Item P) → List (Item P) → ℕ
cost e n input out = owes e n + 2 * e * length out + (2 * e + 2) * length input

abbrev pub works : Turned → Bool
works Took = true
works Gave = true
works Made = true
works (Idle w) = false
works Done = false
