-- a point outside of the extent of the corners isn't in the ring
use Rattle.std.proofs.Common.{◌≡◌, arith, sym, refl, ◌∙◌, List, [], ◌∷◌, Bool, true, false, ℤ, pos, ◌-ℤ◌, ◌*ℤ◌, ◌≤ℤ◌, ◌<ℤ◌, int_lt, int_le, ◌&&◌}
use Rattle.std.specs.Ordering.{int_eq}
use Rattle.std.proofs.lemmas.Int.{ints, by_lt_z}
use Rattle.geo_tests.specs.declared.extents.Extent.{Extent}
use Rattle.geo_tests.specs.Extents.{extent_of}
use Rattle.geo_tests.specs.Tests.{turn, in_pair, in_extent, on_edge, rises_by, crosses, on_border, is_odd, different, last_of, way_round, in_polygon}
use Rattle.geo_tests.proofs.Around.{AllAround, all_around}
use Rattle.geo_tests.proofs.Sides.{and_false, not_on_edge, not_from, not_to}
use Rattle.geo_tests.proofs.Turns.{int_lt-minus, le_true, le_false, lt_true, lt_false, east_product, west_product}

-- ---- an edge beside a point

abreast_false : (a b p : ℤ × ℤ) → in_pair p.0 (a.0, b.0) ≡ false → in_pair p.0 (b.0, a.0) ≡ false → on_edge a b p ≡ false
abreast_false a b p h k = rw (h, k, and_false (int_eq (turn a b p) (pos 0))) refl

pub not_up : (a b p : ℤ × ℤ) → p.1 <ℤ a.1 → rises_by a b p ≡ false
not_up a b p h = rw (le_false a.1 p.1 h) refl

pub not_past : (a b p : ℤ × ℤ) → b.1 ≤ℤ p.1 → rises_by a b p ≡ false
not_past a b p h = rw (lt_false p.1 b.1 h, and_false (int_le a.1 p.1)) refl

pub neither : (a b p : ℤ × ℤ) → rises_by a b p ≡ false → rises_by b a p ≡ false → crosses a b p ≡ false
neither a b p h k = rw (h, k) refl

-- ends to the west
pub rises_west : (a b p : ℤ × ℤ) → a.0 <ℤ p.0 → b.0 <ℤ p.0 → rises_by a b p ≡ false
rises_west a b p h k =
    by_lt_z p.1 a.1 (not_up a b p)
    (λ low. by_lt_z p.1 b.1
    (λ high.
    let w = b.0 -ℤ a.0 in
    let s = p.1 -ℤ a.1 in
    let t = b.1 -ℤ a.1 in
    let v = p.0 -ℤ a.0 in
    let less = east_product w s t v (omega (arith, ints)) (omega (arith, ints)) (omega (arith, ints)) (omega (arith, ints)) in
    rw (int_lt-minus (w *ℤ s) (t *ℤ v), lt_false (t *ℤ v) (w *ℤ s) less) (and_false (int_le a.1 p.1 && int_lt p.1 b.1)))
    (not_past a b p))

-- ends to the east
rises_east : (a b p : ℤ × ℤ) → p.0 <ℤ a.0 → p.0 <ℤ b.0 → a.1 ≤ℤ p.1 → p.1 <ℤ b.1 → rises_by a b p ≡ true
rises_east a b p h k low high =
    let w = b.0 -ℤ a.0 in
    let s = p.1 -ℤ a.1 in
    let t = b.1 -ℤ a.1 in
    let v = p.0 -ℤ a.0 in
    let less = west_product w s t v (omega (arith, ints)) (omega (arith, ints)) (omega (arith, ints)) (omega (arith, ints)) in
    rw (le_true a.1 p.1 low, lt_true p.1 b.1 high, int_lt-minus (w *ℤ s) (t *ℤ v), lt_true (t *ℤ v) (w *ℤ s) less) refl

-- an edge to the east crosses the ray where one end is above it, the other not
pub crosses_east : (a b p : ℤ × ℤ) → p.0 <ℤ a.0 → p.0 <ℤ b.0 → crosses a b p ≡ different (int_le a.1 p.1) (int_le b.1 p.1)
crosses_east a b p h k =
    by_lt_z p.1 a.1
    (λ i. by_lt_z p.1 b.1
    (λ j. rw (neither a b p (not_up a b p i) (not_up b a p j), le_false a.1 p.1 i, le_false b.1 p.1 j) refl)
    (λ j. rw (not_up a b p i, rises_east b a p k h j i, le_false a.1 p.1 i, le_true b.1 p.1 j) refl))
    (λ i. by_lt_z p.1 b.1
    (λ j. rw (rises_east a b p h k i j, le_true a.1 p.1 i, le_false b.1 p.1 j) refl)
    (λ j. rw (neither a b p (not_past a b p j) (not_past b a p i), le_true a.1 p.1 i, le_true b.1 p.1 j) refl))

-- ---- a ring beside a point

abbrev AllOf : (ℤ × ℤ → Type 0) → List (ℤ × ℤ) → Type 0
AllOf Q [] = Unit {0}
AllOf Q (p ∷ ps) = Q p × AllOf Q ps

all_of : (Q : ℤ × ℤ → Type 0) (e : Extent) (ps : List (ℤ × ℤ)) → ((c : ℤ × ℤ) → AllAround e (c ∷ []) → Q c)
    → AllAround e ps → AllOf Q ps
all_of Q e [] f h = tt
all_of Q e (p ∷ ps) f h = (f p (h.0, tt), all_of Q e ps f h.1)

last_too : (Q : ℤ × ℤ → Type 0) (a : ℤ × ℤ) (rest : List (ℤ × ℤ)) → Q a → AllOf Q rest → Q (last_of a rest)
last_too Q a [] h k = h
last_too Q a (b ∷ rest) h k = last_too Q b rest k.0 k.1

all_round : (Q : ℤ × ℤ → Type 0) (ps : List (ℤ × ℤ)) → AllOf Q ps → AllOf Q (way_round ps)
all_round Q [] h = tt
all_round Q (a ∷ rest) h = (last_too Q a rest h.0 h.1, (h.0, h.1))

no_border : (Q : ℤ × ℤ → Type 0) (p : ℤ × ℤ) (ps : List (ℤ × ℤ)) → ((a b : ℤ × ℤ) → Q a → Q b → on_edge a b p ≡ false)
    → AllOf Q ps
    → on_border ps p ≡ false
no_border Q p [] f h = refl
no_border Q p (a ∷ []) f h = refl
no_border Q p (a ∷ b ∷ rest) f h = rw (f a b h.0 h.1.0, no_border Q p (b ∷ rest) f h.1) refl

no_crossing : (Q : ℤ × ℤ → Type 0) (p : ℤ × ℤ) (ps : List (ℤ × ℤ))
    → ((a b : ℤ × ℤ) → Q a → Q b → crosses a b p ≡ false) → AllOf Q ps
    → is_odd ps p ≡ false
no_crossing Q p [] f h = refl
no_crossing Q p (a ∷ []) f h = refl
no_crossing Q p (a ∷ b ∷ rest) f h = rw (f a b h.0 h.1.0, no_crossing Q p (b ∷ rest) f h.1) refl

no_edge : (Q : ℤ × ℤ → Type 0) (p : ℤ × ℤ) (ps : List (ℤ × ℤ)) → ((a b : ℤ × ℤ) → Q a → Q b → on_edge a b p ≡ false)
    → ((a b : ℤ × ℤ) → Q a → Q b → crosses a b p ≡ false) → AllOf Q ps → in_polygon p ps ≡ false
no_edge Q p ps f g h =
    let way = all_round Q ps h in
    rw (no_border Q p (way_round ps) f way, no_crossing Q p (way_round ps) g way) refl

different_through : (a b c : Bool) → different (different a b) (different b c) ≡ different a c
different_through true true c = refl
different_through true false c = refl
different_through false true true = refl
different_through false true false = refl
different_through false false c = refl

different_self : (a : Bool) → different a a ≡ false
different_self true = refl
different_self false = refl

-- a way to the east crosses the ray an odd number of times where it begins on one side of it and ends on the other
odd_east : (p a : ℤ × ℤ) (rest : List (ℤ × ℤ)) → AllOf (λ c. p.0 <ℤ c.0) (a ∷ rest)
    → is_odd (a ∷ rest) p ≡ different (int_le a.1 p.1) (int_le (last_of a rest).1 p.1)
odd_east p a [] h = sym (different_self (int_le a.1 p.1))
odd_east p a (b ∷ rest) h =
    rw (crosses_east a b p h.0 h.1.0, odd_east p b rest h.1)
    (different_through (int_le a.1 p.1) (int_le b.1 p.1) (int_le (last_of b rest).1 p.1))

-- and a way round ends where it begins
even_east : (p : ℤ × ℤ) (ps : List (ℤ × ℤ)) → AllOf (λ c. p.0 <ℤ c.0) ps → is_odd (way_round ps) p ≡ false
even_east p [] h = refl
even_east p (a ∷ rest) h =
    odd_east p (last_of a rest) (a ∷ rest) (all_round (λ c. p.0 <ℤ c.0) (a ∷ rest) h)
    ∙ different_self (int_le (last_of a rest).1 p.1)

-- ---- the four sides of the extent

to_west : (p : ℤ × ℤ) (e : Extent) (ps : List (ℤ × ℤ)) → AllAround e ps → p.0 <ℤ e.x.0 → in_polygon p ps ≡ false
to_west p e ps h o =
    let Q : ℤ × ℤ → Type 0 = λ c. p.0 <ℤ c.0 in
    let all = all_of Q e ps (λ c k. let f = k.0.x.from in omega (arith, ints)) h in
    let beside : (a b : ℤ × ℤ) → Q a → Q b → on_edge a b p ≡ false =
    λ a b i j. abreast_false a b p (not_from a.0 b.0 p.0 i) (not_from b.0 a.0 p.0 j) in
    rw (no_border Q p (way_round ps) beside (all_round Q ps all), even_east p ps all) refl

to_east : (p : ℤ × ℤ) (e : Extent) (ps : List (ℤ × ℤ)) → AllAround e ps → e.x.1 <ℤ p.0 → in_polygon p ps ≡ false
to_east p e ps h o =
    no_edge (λ c. c.0 <ℤ p.0) p ps
    (λ a b i j. abreast_false a b p (not_to a.0 b.0 p.0 j) (not_to b.0 a.0 p.0 i))
    (λ a b i j. neither a b p (rises_west a b p i j) (rises_west b a p j i))
    (all_of (λ c. c.0 <ℤ p.0) e ps (λ c k. let t = k.0.x.to in omega (arith, ints)) h)

to_south : (p : ℤ × ℤ) (e : Extent) (ps : List (ℤ × ℤ)) → AllAround e ps → p.1 <ℤ e.y.0 → in_polygon p ps ≡ false
to_south p e ps h o =
    no_edge (λ c. p.1 <ℤ c.1) p ps
    (λ a b i j. not_on_edge a b p (not_from a.1 b.1 p.1 i) (not_from b.1 a.1 p.1 j))
    (λ a b i j. neither a b p (not_up a b p i) (not_up b a p j))
    (all_of (λ c. p.1 <ℤ c.1) e ps (λ c k. let f = k.0.y.from in omega (arith, ints)) h)

to_north : (p : ℤ × ℤ) (e : Extent) (ps : List (ℤ × ℤ)) → AllAround e ps → e.y.1 <ℤ p.1 → in_polygon p ps ≡ false
to_north p e ps h o =
    no_edge (λ c. c.1 <ℤ p.1) p ps
    (λ a b i j. not_on_edge a b p (not_to a.1 b.1 p.1 j) (not_to b.1 a.1 p.1 i))
    (λ a b i j. neither a b p (not_past a b p (omega (arith, ints))) (not_past b a p (omega (arith, ints))))
    (all_of (λ c. c.1 <ℤ p.1) e ps (λ c k. let t = k.0.y.to in omega (arith, ints)) h)

inside : (p : ℤ × ℤ) (e : Extent) → e.x.0 ≤ℤ p.0 → p.0 ≤ℤ e.x.1 → e.y.0 ≤ℤ p.1 → p.1 ≤ℤ e.y.1 → in_extent p e ≡ true
inside p e a b c d = rw (le_true e.x.0 p.0 a, le_true p.0 e.x.1 b, le_true e.y.0 p.1 c, le_true p.1 e.y.1 d) refl

-- of any box that holds the corners
pub beside : (p : ℤ × ℤ) (e : Extent) (ps : List (ℤ × ℤ)) → AllAround e ps → in_extent p e ≡ false → in_polygon p ps ≡ false
beside p e ps all h =
    by_lt_z p.0 e.x.0 (to_west p e ps all)
    (λ a. by_lt_z e.x.1 p.0 (to_east p e ps all)
    (λ b. by_lt_z p.1 e.y.0 (to_south p e ps all)
    (λ c. by_lt_z e.y.1 p.1 (to_north p e ps all)
    (λ d. let i = inside p e a b c d in cc))))

pub outside : (p : ℤ × ℤ) (ps : List (ℤ × ℤ)) → in_extent p (extent_of ps) ≡ false → in_polygon p ps ≡ false
outside p ps h = beside p (extent_of ps) ps (all_around ps) h
