-- The laws of flows.
use Rattle.std.proofs.Common.{◌≡◌, ℕ, zero, suc, ◌-◌, ◌<◌, ◌≤◌, Bool, true, false, ◌||◌, cond, List, [], ◌∷◌, ◌++◌, length, map, take, refl, sym, ◌∙◌, ap, arith, append_assoc}
use Rattle.std.specs.Prelude.{nat_lt}
use Rattle.std.proofs.lemmas.Bool.{ltb-true, ltb-false}
use Rattle.std.proofs.lemmas.List.{take-append-le}
use Rattle.std.proofs.lemmas.Grind.{common_steps}
use Rattle.cloud_points.specs.Flows.{Flow, all_of, points, with_view, with_points, join, views_upto, upto}
use Rattle.cloud_points.specs.Marks.{Mark, At, View_end, End, Item, marks, all_marks, view_marks, piece_marks, flow_marks, flow_of}

pub either : {A : Type 0} (P : A → Type 0) (b : Bool) (x y : A) → (b ≡ true → P x) → (b ≡ false → P y) → P (cond b x y)
either P true x y f g = f refl
either P false x y f g = g refl

append_nil : {P : Type 0} (a : List P) → a ++ [] ≡ a
append_nil [] = refl
append_nil (x ∷ a) = ap (λ z. x ∷ z) (append_nil a)

or_assoc : (a b c : Bool) → (a || b) || c ≡ a || (b || c)
or_assoc true b c = refl
or_assoc false b c = refl

abbrev with_cut : {P : Type 0} → Bool → Flow P → Flow P
with_cut t f = record f { cut = t }

-- a view before a joined flow
pub join-with_view : {P : Type 0} (v : List P) (a b : Flow P) → join (with_view v a) b ≡ with_view v (join a b)
join-with_view v a b = refl

with_points-append : {P : Type 0} (x y : List P) (b : Flow P) → with_points x (with_points y b) ≡ with_points (x ++ y) b
with_points-append {P} x y b = go b.views
  where
    go : (vs : List (List P)) → with_points x (with_points y (record b { views = vs })) ≡ with_points (x ++ y) (record b { views = vs })
    go [] = ap (λ z. record b { views = []; open_view = z }) (sym (append_assoc x y b.open_view))
    go (v ∷ vs) = ap (λ z. record b { views = z ∷ vs }) (sym (append_assoc x y v))

pub points-with_points : {P : Type 0} (x : List P) (b : Flow P) → points (with_points x b) ≡ x ++ points b
points-with_points {P} x b = go b.views
  where
    go : (vs : List (List P)) → points (with_points x (record b { views = vs })) ≡ x ++ points (record b { views = vs })
    go [] = refl
    go (v ∷ vs) = ap (λ z. z ++ b.open_view) (append_assoc x v (all_of vs)) ∙ append_assoc x (v ++ all_of vs) b.open_view

map_append : {A B : Type 0} (f : A → B) (x y : List A) → map f (x ++ y) ≡ map f x ++ map f y
map_append f [] y = refl
map_append f (a ∷ x) y = ap (λ z. f a ∷ z) (map_append f x y)

marks-with_points : {P : Type 0} (x : List P) (b : Flow P) → piece_marks (with_points x b) ≡ map At x ++ piece_marks b
marks-with_points {P} x b = go b.views
  where
    go : (vs : List (List P)) → piece_marks (with_points x (record b { views = vs })) ≡ map At x ++ piece_marks (record b { views = vs })
    go [] = map_append At x b.open_view
    go (v ∷ vs) = ap (λ z. z ++ View_end ∷ view_marks vs ++ map At b.open_view) (map_append At x v)
        ∙ grind (arith, append_assoc)

pub all_of-append : {P : Type 0} (a b : List (List P)) → all_of (a ++ b) ≡ all_of a ++ all_of b
all_of-append [] b = refl
all_of-append (v ∷ a) b = ap (λ z. v ++ z) (all_of-append a b) ∙ sym (append_assoc v (all_of a) (all_of b))

pub points-join : {P : Type 0} (a b : Flow P) → points (join a b) ≡ points a ++ points b
points-join {P} a b = go a.views
  where
    go : (vs : List (List P)) → points (join (record a { views = vs }) b) ≡ points (record a { views = vs }) ++ points b
    go [] = points-with_points a.open_view b
    go (v ∷ vs) = append_assoc v (all_of (join (record a { views = vs }) b).views) (with_points a.open_view b).open_view
        ∙ ap (λ z. v ++ z) (go vs)
        ∙ sym (append_assoc v (points (record a { views = vs })) (points b))
        ∙ ap (λ z. z ++ points b) (sym (append_assoc v (all_of vs) a.open_view))

pub marks-join : {P : Type 0} (a b : Flow P) → piece_marks (join a b) ≡ piece_marks a ++ piece_marks b
marks-join {P} a b = go a.views
  where
    go : (vs : List (List P)) → piece_marks (join (record a { views = vs }) b) ≡ piece_marks (record a { views = vs }) ++ piece_marks b
    go [] = marks-with_points a.open_view b
    go (v ∷ vs) = append_assoc (map At v) (View_end ∷ view_marks (join (record a { views = vs }) b).views) (map At (with_points a.open_view b).open_view)
        ∙ ap (λ z. map At v ++ View_end ∷ z) (go vs)
        ∙ sym (append_assoc (map At v) (View_end ∷ piece_marks (record a { views = vs })) (piece_marks b))
        ∙ ap (λ z. z ++ piece_marks b) (sym (append_assoc (map At v) (View_end ∷ view_marks vs) (map At a.open_view)))

pub join_assoc : {P : Type 0} (a b c : Flow P) → join (join a b) c ≡ join a (join b c)
join_assoc {P} a b c = go a.views
  where
    first : (vb : List (List P)) → join (join (record a { views = [] }) (record b { views = vb })) c ≡ join (record a { views = [] }) (join (record b { views = vb }) c)
    first [] = ap (with_cut ((a.cut || b.cut) || c.cut)) (sym (with_points-append a.open_view b.open_view c))
        ∙ ap (λ t. with_cut t (with_points a.open_view (with_points b.open_view c))) (or_assoc a.cut b.cut c.cut)
    first (v ∷ vb) = ap (λ t. with_cut t (join (join (record a { views = [] }) (record b { views = v ∷ vb })) c)) (or_assoc a.cut b.cut c.cut)

    go : (vs : List (List P)) → join (join (record a { views = vs }) b) c ≡ join (record a { views = vs }) (join b c)
    go [] = first b.views
    go (v ∷ vs) = ap (with_view v) (go vs)

with_points-nil : {P : Type 0} (f : Flow P) → with_points [] f ≡ f
with_points-nil {P} f = go f.views
  where
    go : (vs : List (List P)) → with_points [] (record f { views = vs }) ≡ record f { views = vs }
    go [] = refl
    go (v ∷ vs) = refl

of-points : {P : Type 0} (x : List P) (ms : List (Mark P)) → flow_of (map At x ++ ms) ≡ with_points x (flow_of ms)
of-points [] ms = sym (with_points-nil (flow_of ms))
of-points (p ∷ x) ms = ap (with_points (p ∷ [])) (of-points x ms) ∙ with_points-append (p ∷ []) x (flow_of ms)

pub flow_of-flow_marks : {P : Type 0} (f : Flow P) → flow_of (flow_marks f) ≡ f
flow_of-flow_marks {P} f = go f.views
  where
    go : (vs : List (List P)) → flow_of (flow_marks (record f { views = vs })) ≡ record f { views = vs }
    go [] = of-points f.open_view (End f.cut ∷ []) ∙ ap (λ z. record { views = []; open_view = z; cut = f.cut }) (append_nil f.open_view)
    go (v ∷ vs) = ap flow_of (ap (λ z. z ++ End f.cut ∷ []) (append_assoc (map At v) (View_end ∷ view_marks vs) (map At f.open_view))
        ∙ append_assoc (map At v) (View_end ∷ piece_marks (record f { views = vs })) (End f.cut ∷ []))
        ∙ of-points v (View_end ∷ flow_marks (record f { views = vs }))
        ∙ ap (λ z. with_points v (with_view [] z)) (go vs)
        ∙ ap (λ z. with_view z (record f { views = vs })) (append_nil v)

take-add : {P : Type 0} (v w : List P) (m : ℕ) → length v ≤ m → take m (v ++ w) ≡ v ++ take (m - length v) w
take-add [] w m h = grind (arith, common_steps)
take-add (x ∷ v) w zero h = absurd (omega (arith, h))
take-add (x ∷ v) w (suc m) h = ap (λ z. x ∷ z) (take-add v w m (omega (arith, h)) ∙ ap (λ k. v ++ take k w) (omega arith))

pub points-upto : {P : Type 0} (f : Flow P) (m : ℕ) → points (upto f m) ≡ take m (points f)
points-upto {P} f m = go f.views m
  where
    go : (vs : List (List P)) (m : ℕ) → points (views_upto vs f.open_view m) ≡ take m (all_of vs ++ f.open_view)
    go [] m = refl
    go (v ∷ vs) m = either (λ z. points z ≡ take m (v ++ all_of vs ++ f.open_view)) (nat_lt m (length v)) _ _
        (λ e. let less : m < length v = ltb-true m (length v) e in sym (ap (take m) (append_assoc v (all_of vs) f.open_view) ∙ take-append-le m v (all_of vs ++ f.open_view) (omega (arith, less))))
        (λ e. let more : length v ≤ m = ltb-false m (length v) e in
        append_assoc v (all_of (views_upto vs f.open_view (m - length v)).views) (views_upto vs f.open_view (m - length v)).open_view
        ∙ ap (λ z. v ++ z) (go vs (m - length v))
        ∙ sym (ap (take m) (append_assoc v (all_of vs) f.open_view) ∙ take-add v (all_of vs ++ f.open_view) m more))

-- items one after the other stand for their flows one after the other
pub all_marks-append : {P : Type 0} (a b : List (Item P)) → all_marks (a ++ b) ≡ all_marks a ++ all_marks b
all_marks-append [] b = refl
all_marks-append (i ∷ a) b = ap (λ z. marks i ++ z) (all_marks-append a b) ∙ sym (append_assoc (marks i) (all_marks a) (all_marks b))
