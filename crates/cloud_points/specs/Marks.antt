-- A flow as one list of marks: a point, the end of a view, the end of all and whether it was cut.
use Rattle.std.specs.Prelude.{ℕ, Bool, true, false, List, [], ◌∷◌, ◌++◌, length, map}
use Rattle.cloud_points.specs.Flows.{Flow, with_view, with_points, empty_flow}

pub data Mark (P : Type 0) : Type 0 where
  At : P → Mark P
  View_end : Mark P
  End : Bool → Mark P

-- what one item brings
pub data Item (P : Type 0) : Type 0 where
  Points : List P → Item P
  End_view : Item P
  End_all : Bool → Item P

abbrev pub marks : {P : Type 0} → Item P → List (Mark P)
marks (Points ps) = map At ps
marks End_view = View_end ∷ []
marks (End_all cut) = End cut ∷ []

-- a list of items stands for these marks, however it is cut into items
abbrev pub all_marks : {P : Type 0} → List (Item P) → List (Mark P)
all_marks [] = []
all_marks (i ∷ is) = marks i ++ all_marks is

-- the marks up to and with the first end of all
abbrev pub to_end : {P : Type 0} → List (Mark P) → List (Mark P)
to_end [] = []
to_end (At p ∷ ms) = At p ∷ to_end ms
to_end (View_end ∷ ms) = View_end ∷ to_end ms
to_end (End cut ∷ ms) = End cut ∷ []

abbrev pub view_marks : {P : Type 0} → List (List P) → List (Mark P)
view_marks [] = []
view_marks (v ∷ vs) = map At v ++ View_end ∷ view_marks vs

-- the marks of a piece of a flow, which has no end
abbrev pub piece_marks : {P : Type 0} → Flow P → List (Mark P)
piece_marks f = view_marks f.views ++ map At f.open_view

-- the marks of a whole flow
abbrev pub flow_marks : {P : Type 0} → Flow P → List (Mark P)
flow_marks f = piece_marks f ++ End f.cut ∷ []

-- the flow that marks stand for
abbrev pub flow_of : {P : Type 0} → List (Mark P) → Flow P
flow_of [] = empty_flow
flow_of (At p ∷ ms) = with_points (p ∷ []) (flow_of ms)
flow_of (View_end ∷ ms) = with_view [] (flow_of ms)
flow_of (End cut ∷ ms) = record { views = []; open_view = []; cut = cut }

abbrev pub is_end : {P : Type 0} → Item P → Bool
is_end (Points ps) = false
is_end End_view = false
is_end (End_all cut) = true

-- how many ends of views and how many points an item brings
abbrev pub views_in : {P : Type 0} → Item P → ℕ
views_in (Points ps) = 0
views_in End_view = 1
views_in (End_all cut) = 0

abbrev pub points_in : {P : Type 0} → Item P → ℕ
points_in (Points ps) = length ps
points_in End_view = 0
points_in (End_all cut) = 0
