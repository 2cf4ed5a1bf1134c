-- A flow: complete views, the points of an open view, and whether it was cut.
use Rattle.std.specs.Prelude.{ℕ, ◌-◌, Bool, true, false, ◌||◌, nat_lt, if◌then◌else◌, List, [], ◌∷◌, ◌++◌, length, map, take}

pub record Flow (P : Type 0) : Type 0 where
  pub views : List (List P)
  pub open_view : List P
  pub cut : Bool

abbrev pub all_of : {P : Type 0} → List (List P) → List P
all_of [] = []
all_of (v ∷ vs) = v ++ all_of vs

-- the points in their order; a point's number is its place here
abbrev pub points : {P : Type 0} → Flow P → List P
points f = all_of f.views ++ f.open_view

abbrev pub empty_flow : {P : Type 0} → Flow P
empty_flow = record { views = []; open_view = []; cut = false }

-- the flow with this view before it
abbrev pub with_view : {P : Type 0} → List P → Flow P → Flow P
with_view v f = record f { views = v ∷ f.views }

-- these points stand before the first view, or before the open one where there is none
abbrev pub first_with : {P : Type 0} → List P → List (List P) → List (List P)
first_with ps [] = []
first_with ps (v ∷ vs) = (ps ++ v) ∷ vs

abbrev pub open_with : {P : Type 0} → List P → List (List P) → List P → List P
open_with ps [] last = ps ++ last
open_with ps (v ∷ vs) last = last

abbrev pub with_points : {P : Type 0} → List P → Flow P → Flow P
with_points ps f = record { views = first_with ps f.views; open_view = open_with ps f.views f.open_view; cut = f.cut }

-- one flow and then another
abbrev pub join : {P : Type 0} → Flow P → Flow P → Flow P
join a b = let rest = with_points a.open_view b in
    record { views = a.views ++ rest.views; open_view = rest.open_view; cut = a.cut || b.cut }

abbrev pub join_all : {P : Type 0} → List (Flow P) → Flow P
join_all [] = empty_flow
join_all (f ∷ fs) = join f (join_all fs)

-- what stands before point m
abbrev pub views_upto : {P : Type 0} → List (List P) → List P → ℕ → Flow P
views_upto [] last m = record { views = []; open_view = take m last; cut = true }
views_upto (v ∷ vs) last m =
    if nat_lt m (length v) then record { views = []; open_view = take m v; cut = true }
    else with_view v (views_upto vs last (m - length v))

abbrev pub upto : {P : Type 0} → Flow P → ℕ → Flow P
upto f m = views_upto f.views f.open_view m

-- the same of each view and of the open one
abbrev pub map_views : {P Q : Type 0} → (List P → List Q) → Flow P → Flow Q
map_views g f = record { views = map g f.views; open_view = g f.open_view; cut = f.cut }
