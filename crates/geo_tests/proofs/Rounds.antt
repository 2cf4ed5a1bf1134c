-- what doesn't depend on where a way round begins, nor on its direction
use Rattle.std.proofs.Common.{◌≡◌, arith, sym, refl, ap, ◌∙◌, List, [], ◌∷◌, ◌++◌, reverse, append_assoc, Bool, true, false, ℤ, pos, ◌-ℤ◌, ◌*ℤ◌, ◌≤ℤ◌, int_le, ◌||◌, ◌&&◌}
use Rattle.std.specs.Ordering.{int_eq}
use Rattle.std.proofs.lemmas.Int.{ints, by_lt_z}
use Rattle.std.proofs.lemmas.List.{reverse-append}
use mathlib.Core.List.{reverse_aux}
use lib.IntN.{*ℤ_comm}
use Rattle.geo_tests.specs.Tests.{turn, in_pair, is_between, on_edge, crosses, on_border, is_odd, different, last_of, way_round, in_polygon}
use Rattle.geo_tests.proofs.Sides.{both_true-left, both_true-right, on_edge_back, crosses_back, or_comm, or_false, or_true}
use Rattle.geo_tests.proofs.Turns.{le_true, int_eq-minus}
use Rattle.geo_tests.proofs.Outside.{not_up, not_past, neither}
use Rattle.geo_tests.proofs.Walks.{different_assoc, different_false}

-- how to join what edges say, in any order
record Joins (join : Bool → Bool → Bool) : Type 0 where
  none : (a : Bool) → join a false ≡ a
  swap : (a b : Bool) → join a b ≡ join b a
  assoc : (a b c : Bool) → join a (join b c) ≡ join (join a b) c

-- what the edges of a way say, joined
abbrev total : (Bool → Bool → Bool) → (ℤ × ℤ → ℤ × ℤ → Bool) → List (ℤ × ℤ) → Bool
total join f [] = false
total join f (a ∷ []) = false
total join f (a ∷ b ∷ rest) = join (f a b) (total join f (b ∷ rest))

-- a way that goes one corner further
further : (join : Bool → Bool → Bool) (f : ℤ × ℤ → ℤ × ℤ → Bool) → Joins join → (a : ℤ × ℤ) (rest : List (ℤ × ℤ)) (b : ℤ × ℤ)
    → total join f (a ∷ (rest ++ b ∷ [])) ≡ join (total join f (a ∷ rest)) (f (last_of a rest) b)
further join f j a [] b = j.swap (f a b) false
further join f j a (c ∷ rest) b =
    ap (join (f a c)) (further join f j c rest b) ∙ j.assoc (f a c) (total join f (c ∷ rest)) (f (last_of c rest) b)

-- a way round ends with the edge to its first corner
closed : (join : Bool → Bool → Bool) (f : ℤ × ℤ → ℤ × ℤ → Bool) → Joins join → (a : ℤ × ℤ) (rest : List (ℤ × ℤ))
    → total join f (way_round (a ∷ rest)) ≡ total join f (a ∷ (rest ++ a ∷ []))
closed join f j a rest = j.swap (f (last_of a rest) a) (total join f (a ∷ rest)) ∙ sym (further join f j a rest a)

last_is : (a : ℤ × ℤ) (rest : List (ℤ × ℤ)) (b : ℤ × ℤ) → last_of a (rest ++ b ∷ []) ≡ b
last_is a [] b = refl
last_is a (c ∷ rest) b = last_is c rest b

-- its first corner may come last
one_later : (join : Bool → Bool → Bool) (f : ℤ × ℤ → ℤ × ℤ → Bool) → Joins join → (a : ℤ × ℤ) (rest : List (ℤ × ℤ))
    → total join f (way_round (rest ++ a ∷ [])) ≡ total join f (way_round (a ∷ rest))
one_later join f j a [] = refl
one_later join f j a (b ∷ rest) =
    let t = total join f (b ∷ rest) in
    let l = f (last_of b rest) a in
    ap (λ z. join (f z b) (total join f (b ∷ (rest ++ a ∷ [])))) (last_is b rest a)
    ∙ ap (join (f a b)) (further join f j b rest a)
    ∙ j.assoc (f a b) t l
    ∙ j.swap (join (f a b) t) l

append_none : (xs : List (ℤ × ℤ)) → xs ++ [] ≡ xs
append_none [] = refl
append_none (x ∷ xs) = ap (λ z. x ∷ z) (append_none xs)

elsewhere : (join : Bool → Bool → Bool) (f : ℤ × ℤ → ℤ × ℤ → Bool) → Joins join → (front back : List (ℤ × ℤ))
    → total join f (way_round (back ++ front)) ≡ total join f (way_round (front ++ back))
elsewhere join f j [] back = ap (λ z. total join f (way_round z)) (append_none back)
elsewhere join f j (a ∷ front) back =
    let round : List (ℤ × ℤ) → Bool = λ z. total join f (way_round z) in
    ap round (sym (append_assoc back (a ∷ []) front))
    ∙ elsewhere join f j front (back ++ a ∷ [])
    ∙ ap round (sym (append_assoc front back (a ∷ [])))
    ∙ one_later join f j a (front ++ back)

-- the way back to the beginning, and on
and_back : (join : Bool → Bool → Bool) (f : ℤ × ℤ → ℤ × ℤ → Bool) → Joins join → ((a b : ℤ × ℤ) → f b a ≡ f a b)
    → (a : ℤ × ℤ) (rest on : List (ℤ × ℤ))
    → total join f (reverse_aux rest (a ∷ on)) ≡ join (total join f (a ∷ rest)) (total join f (a ∷ on))
and_back join f j s a [] on = sym (j.swap false (total join f (a ∷ on)) ∙ j.none (total join f (a ∷ on)))
and_back join f j s a (b ∷ rest) on =
    let t = total join f (b ∷ rest) in
    let u = total join f (a ∷ on) in
    and_back join f j s b rest (a ∷ on)
    ∙ j.assoc t (f b a) u
    ∙ ap (λ z. join z u) (j.swap t (f b a) ∙ ap (λ z. join z t) (s a b))

way_back : (join : Bool → Bool → Bool) (f : ℤ × ℤ → ℤ × ℤ → Bool) → Joins join → ((a b : ℤ × ℤ) → f b a ≡ f a b)
    → (xs : List (ℤ × ℤ)) → total join f (reverse xs) ≡ total join f xs
way_back join f j s [] = refl
way_back join f j s (a ∷ rest) = and_back join f j s a rest [] ∙ j.none (total join f (a ∷ rest))

turned : (join : Bool → Bool → Bool) (f : ℤ × ℤ → ℤ × ℤ → Bool) → Joins join → ((a b : ℤ × ℤ) → f b a ≡ f a b)
    → (xs : List (ℤ × ℤ)) → total join f (way_round (reverse xs)) ≡ total join f (way_round xs)
turned join f j s [] = refl
turned join f j s (a ∷ rest) =
    let round : List (ℤ × ℤ) → Bool = λ z. total join f (way_round z) in
    let one = a ∷ [] in
    let back : reverse (a ∷ (rest ++ one)) ≡ a ∷ (reverse rest ++ one) =
    reverse-append one (rest ++ one) ∙ ap (λ z. z ++ one) (reverse-append rest one) in
    ap round (reverse-append one rest)
    ∙ one_later join f j a (reverse rest)
    ∙ closed join f j a (reverse rest)
    ∙ ap (total join f) (sym back)
    ∙ way_back join f j s (a ∷ (rest ++ one))
    ∙ sym (closed join f j a rest)

-- ---- of both parts of a polygon

different_comm : (a b : Bool) → different a b ≡ different b a
different_comm true true = refl
different_comm true false = refl
different_comm false true = refl
different_comm false false = refl

or_assoc : (a b c : Bool) → (a || (b || c)) ≡ ((a || b) || c)
or_assoc true b c = refl
or_assoc false b c = refl

ors : Joins ◌||◌
ors = record { none = or_false; swap = or_comm; assoc = or_assoc }

differents : Joins different
differents = record { none = different_false; swap = different_comm; assoc = different_assoc }

border_is : (p : ℤ × ℤ) (ps : List (ℤ × ℤ)) → on_border ps p ≡ total ◌||◌ (λ a b. on_edge a b p) ps
border_is p [] = refl
border_is p (a ∷ []) = refl
border_is p (a ∷ b ∷ rest) = ap (λ t. on_edge a b p || t) (border_is p (b ∷ rest))

odd_is : (p : ℤ × ℤ) (ps : List (ℤ × ℤ)) → is_odd ps p ≡ total different (λ a b. crosses a b p) ps
odd_is p [] = refl
odd_is p (a ∷ []) = refl
odd_is p (a ∷ b ∷ rest) = ap (different (crosses a b p)) (odd_is p (b ∷ rest))

polygon_is : (p : ℤ × ℤ) (ps : List (ℤ × ℤ))
    → in_polygon p ps
    ≡ (total ◌||◌ (λ a b. on_edge a b p) (way_round ps) || total different (λ a b. crosses a b p) (way_round ps))
polygon_is p ps = rw (border_is p (way_round ps), odd_is p (way_round ps)) refl

both : (s s' t t' : Bool) → s ≡ s' → t ≡ t' → (s || t) ≡ (s' || t')
both s s' t t' h k = ap (λ z. z || t) h ∙ ap (λ z. s' || z) k

pub in_polygon-reverse : (p : ℤ × ℤ) (ps : List (ℤ × ℤ)) → in_polygon p (reverse ps) ≡ in_polygon p ps
in_polygon-reverse p ps =
    polygon_is p (reverse ps)
    ∙ both _ _ _ _
    (turned ◌||◌ (λ a b. on_edge a b p) ors (λ a b. on_edge_back a b p) ps)
    (turned different (λ a b. crosses a b p) differents (λ a b. crosses_back a b p) ps)
    ∙ sym (polygon_is p ps)

pub in_polygon-append : (p : ℤ × ℤ) (front back : List (ℤ × ℤ)) → in_polygon p (back ++ front) ≡ in_polygon p (front ++ back)
in_polygon-append p front back =
    polygon_is p (back ++ front)
    ∙ both _ _ _ _
    (elsewhere ◌||◌ (λ a b. on_edge a b p) ors front back)
    (elsewhere different (λ a b. crosses a b p) differents front back)
    ∙ sym (polygon_is p (front ++ back))

-- ---- a corner that stands twice

is_there : (a v : ℤ) → is_between a a v ≡ true → v ≡ a
is_there a v h =
    let i = sym (or_same (in_pair v (a, a))) ∙ h in
    let f = both_true-left (int_le a v) (int_le v a) i in
    let t = both_true-right (int_le a v) (int_le v a) i in
    omega (arith, ints)
  where
    or_same : (t : Bool) → (t || t) ≡ t
    or_same true = refl
    or_same false = refl

end_between : (a b : ℤ) → is_between b a a ≡ true
end_between a b =
    let here : a ≤ℤ a = omega (arith, ints) in
    by_lt_z a b
    (λ h. rw (le_true a a here, le_true a b (omega (arith, ints))) (or_true (int_le b a && true)))
    (λ h. rw (le_true a a here, le_true b a h) refl)

int_eq-same : (u : ℤ) → int_eq u u ≡ true
int_eq-same u = grind (arith, ints)

-- a point on the edge from a corner to itself is on each edge to that corner
on_corner : (a b p : ℤ × ℤ) → on_edge a a p ≡ true → on_edge b a p ≡ true
on_corner a b p h =
    let line = int_eq (turn a a p) (pos 0) in
    let across = is_between a.0 a.0 p.0 in
    let along = is_between a.1 a.1 p.1 in
    let x = is_there a.0 p.0 (both_true-right line across (both_true-left (line && across) along h)) in
    let y = is_there a.1 p.1 (both_true-right (line && across) along h) in
    let u = (a.0 -ℤ b.0) *ℤ (a.1 -ℤ b.1) in
    let v = (a.1 -ℤ b.1) *ℤ (a.0 -ℤ b.0) in
    rw (
      x,
      y,
      int_eq-minus u v,
      *ℤ_comm (a.1 -ℤ b.1) (a.0 -ℤ b.0),
      int_eq-same u,
      end_between a.0 b.0,
      end_between a.1 b.1,
    ) refl

no_crossing : (a p : ℤ × ℤ) → crosses a a p ≡ false
no_crossing a p =
    by_lt_z p.1 a.1
    (λ h. neither a a p (not_up a a p h) (not_up a a p h))
    (λ h. neither a a p (not_past a a p h) (not_past a a p h))

absorbed : (s t u : Bool) → (s ≡ true → t ≡ true) → (s || (t || u)) ≡ (t || u)
absorbed true t u h = sym (ap (λ z. z || u) (h refl))
absorbed false t u h = refl

-- the first corner may stand at the end once more
pub in_polygon-closed : (p first : ℤ × ℤ) (rest : List (ℤ × ℤ))
    → in_polygon p (first ∷ (rest ++ first ∷ [])) ≡ in_polygon p (first ∷ rest)
in_polygon-closed p first rest =
    let on : ℤ × ℤ → ℤ × ℤ → Bool = λ a b. on_edge a b p in
    let cross : ℤ × ℤ → ℤ × ℤ → Bool = λ a b. crosses a b p in
    let way = first ∷ (rest ++ first ∷ []) in
    let last = last_of first rest in
    polygon_is p way
    ∙ both _ _ _ _
    (ap (λ z. on z first || total ◌||◌ on way) (last_is first rest first)
    ∙ ap (λ z. on first first || z) (sym (closed ◌||◌ on ors first rest))
    ∙ absorbed (on first first) (on last first) (total ◌||◌ on (first ∷ rest)) (on_corner first last p))
    (ap (λ z. different (cross z first) (total different cross way)) (last_is first rest first)
    ∙ ap (λ z. different z (total different cross way)) (no_crossing first p)
    ∙ sym (closed different cross differents first rest))
    ∙ sym (polygon_is p (first ∷ rest))
