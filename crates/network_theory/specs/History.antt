-- What the nodes of a net gave and took over a whole schedule.
use Rattle.std.specs.Prelude.{ℕ, ◌==◌, Bool, cond, List, [], ◌∷◌, ◌++◌, take, Option, Some, None}
use Rattle.cloud_points.specs.Marks.{Mark, At, View_end, End, Item, Points, End_view, End_all, is_end}
use Rattle.network_theory.specs.Net.{Net, Choice, Turned, Took, Gave, Made, Idle, Done, turn_at, step, open_ins, is_current, current_edge, inputs_of, flow}

-- items beside their numbers
abbrev pub numbered : {P : Type 0} → List ℕ → List (Item P) → List (ℕ × Item P)
numbered [] items = []
numbered (n ∷ ns) [] = []
numbered (n ∷ ns) (i ∷ is) = (n, i) ∷ numbered ns is

abbrev pub number_of : {P : Type 0} → ℕ × Item P → ℕ
number_of i = i.0

abbrev pub ends_all : {P : Type 0} → ℕ × Item P → Bool
ends_all i = is_end i.1

-- what is on the edge above a node
abbrev pub held : {S P F : Type 0} → Net S P F → ℕ → List (ℕ × Item P)
held net k = numbered (net.numbers k) (net.edge k)

-- what was in the hand, where the turn gave it
abbrev pub gave : {P : Type 0} → Turned → Option (Item P) → ℕ → List (ℕ × Item P)
gave Gave None n = []
gave Gave (Some i) n = (n, i) ∷ []
gave Took hand n = []
gave Made hand n = []
gave (Idle why) hand n = []
gave Done hand n = []

-- the first item of the current edge, where the turn took it
abbrev pub took : {A : Type 0} → Turned → List A → List A
took Took items = take 1 items
took Gave items = []
took Made items = []
took (Idle why) items = []
took Done items = []

abbrev pub gave_in_step : {S P F : Type 0} → Net S P F → ℕ → ℕ → ℕ → Choice S P F → ℕ → List (ℕ × Item P)
gave_in_step net root cap i ch k = cond (k == i) (gave (turn_at net root cap i ch).turned (net.node i).hand (net.node i).sent) []

abbrev pub took_in_step : {S P F : Type 0} → Net S P F → ℕ → ℕ → ℕ → Choice S P F → ℕ → List (ℕ × Item P)
took_in_step net root cap i ch k = cond (is_current k (open_ins (net.node i))) (took (turn_at net root cap i ch).turned (held net k)) []

-- all that node k gave, and all that was taken from the edge above it
abbrev pub given_by : {S P F : Type 0} → Net S P F → ℕ → ℕ → List (ℕ × Choice S P F) → ℕ → List (ℕ × Item P)
given_by net root cap [] k = []
given_by net root cap (t ∷ ts) k = gave_in_step net root cap t.0 t.1 k ++ given_by (step net root cap t.0 t.1) root cap ts k

abbrev pub taken_from : {S P F : Type 0} → Net S P F → ℕ → ℕ → List (ℕ × Choice S P F) → ℕ → List (ℕ × Item P)
taken_from net root cap [] k = []
taken_from net root cap (t ∷ ts) k = took_in_step net root cap t.0 t.1 k ++ taken_from (step net root cap t.0 t.1) root cap ts k

-- the points that an item, items and marks bring
abbrev pub item_points : {P : Type 0} → Item P → List P
item_points (Points ps) = ps
item_points End_view = []
item_points (End_all cut) = []

abbrev pub all_item_points : {P : Type 0} → List (Item P) → List P
all_item_points [] = []
all_item_points (i ∷ is) = item_points i ++ all_item_points is

abbrev pub mark_points : {P : Type 0} → List (Mark P) → List P
mark_points [] = []
mark_points (At p ∷ ms) = p ∷ mark_points ms
mark_points (View_end ∷ ms) = mark_points ms
mark_points (End cut ∷ ms) = mark_points ms

-- the points that a turn took from the current edge
abbrev pub points_taken : {P : Type 0} → Turned → List (Item P) → List P
points_taken turned items = all_item_points (took turned items)

abbrev pub points_in_step : {S P F : Type 0} → Net S P F → ℕ → ℕ → ℕ → Choice S P F → ℕ → List P
points_in_step net root cap i ch k = cond (k == i) (points_taken (turn_at net root cap i ch).turned (current_edge net.edge (open_ins (net.node i)))) []

-- all points that node k took
abbrev pub points_taken_by : {S P F : Type 0} → Net S P F → ℕ → ℕ → List (ℕ × Choice S P F) → ℕ → List P
points_taken_by net root cap [] k = []
points_taken_by net root cap (t ∷ ts) k = points_in_step net root cap t.0 t.1 k ++ points_taken_by (step net root cap t.0 t.1) root cap ts k

-- what the inputs of node k still bring
abbrev pub brings : {S P F : Type 0} → Net S P F → ℕ → List (Mark P)
brings net k = inputs_of (flow net k) (open_ins (net.node k))
