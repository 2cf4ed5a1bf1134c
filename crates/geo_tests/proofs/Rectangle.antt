-- the ring round a box holds the points of the box
use Rattle.std.proofs.Common.{◌≡◌, arith, sym, refl, ◌∙◌, [], ◌∷◌, Bool, true, false, ℤ, pos, ◌-ℤ◌, ◌≤ℤ◌, int_le, ◌||◌, ◌&&◌, ◌⊎◌, inl, inr, None}
use Rattle.std.specs.Ordering.{int_eq}
use Rattle.std.proofs.lemmas.Int.{ints, by_lt_z}
use lib.IntN.{zero-*ℤ, *ℤ-zero}
use Rattle.cloud_points.specs.declared.point.Point.{Point}
use Rattle.limits_text.specs.declared.shapes.Box3.{Box3}
use Rattle.geo_tests.specs.declared.extents.Extent.{Extent}
use Rattle.geo_tests.specs.Rectangles.{corners_of}
use Rattle.geo_tests.specs.Tests.{turn, in_pair, is_between, in_box, on_edge, crosses, on_border, is_odd, different, in_polygon}
use Rattle.geo_tests.proofs.Around.{AllAround, Between}
use Rattle.geo_tests.proofs.Outside.{not_up, not_past, neither, rises_west, crosses_east, beside}
use Rattle.geo_tests.proofs.Sides.{both_true-left, both_true-right, or_true}
use Rattle.geo_tests.proofs.Turns.{le_true, le_false}

-- ---- on one of the four edges

upright_line : (a b p : ℤ × ℤ) → b.0 ≡ a.0 → p.0 ≡ a.0 → int_eq (turn a b p) (pos 0) ≡ true
upright_line a b p h k =
    let z : a.0 -ℤ a.0 ≡ pos 0 = omega (arith, ints) in
    rw (h, k, z, zero-*ℤ (p.1 -ℤ a.1), *ℤ-zero (b.1 -ℤ a.1)) refl

level_line : (a b p : ℤ × ℤ) → b.1 ≡ a.1 → p.1 ≡ a.1 → int_eq (turn a b p) (pos 0) ≡ true
level_line a b p h k =
    let z : a.1 -ℤ a.1 ≡ pos 0 = omega (arith, ints) in
    rw (h, k, z, zero-*ℤ (p.0 -ℤ a.0), *ℤ-zero (b.0 -ℤ a.0)) refl

between_up : (a b v : ℤ) → a ≤ℤ v → v ≤ℤ b → is_between a b v ≡ true
between_up a b v h k = rw (le_true a v h, le_true v b k) refl

between_down : (a b v : ℤ) → b ≤ℤ v → v ≤ℤ a → is_between a b v ≡ true
between_down a b v h k = rw (le_true b v h, le_true v a k) (or_true (int_le a v && int_le v b))

upright : (p : ℤ × ℤ) (a b : ℤ × ℤ) → b.0 ≡ a.0 → p.0 ≤ℤ a.0 → a.0 ≤ℤ p.0 → is_between a.1 b.1 p.1 ≡ true → on_edge a b p ≡ true
upright p a b i h k l =
    let e : p.0 ≡ a.0 = omega (arith, ints) in
    rw (upright_line a b p i e, i, between_up a.0 a.0 p.0 k h, l) refl

level : (p : ℤ × ℤ) (a b : ℤ × ℤ) → b.1 ≡ a.1 → p.1 ≤ℤ a.1 → a.1 ≤ℤ p.1 → is_between a.0 b.0 p.0 ≡ true → on_edge a b p ≡ true
level p a b i h k l =
    let e : p.1 ≡ a.1 = omega (arith, ints) in
    rw (level_line a b p i e, i, between_up a.1 a.1 p.1 k h, l) refl

-- ---- inside

-- one of four edges has the point on it
an_edge : (r s t u odd : Bool) → (r ≡ true) ⊎ ((s ≡ true) ⊎ ((t ≡ true) ⊎ (u ≡ true)))
    → ((r || (s || (t || (u || false)))) || odd) ≡ true
an_edge true s t u odd h = refl
an_edge false true t u odd h = refl
an_edge false false true u odd h = refl
an_edge false false false true odd h = refl
an_edge false false false false odd (inl h) = cc
an_edge false false false false odd (inr (inl h)) = cc
an_edge false false false false odd (inr (inr (inl h))) = cc
an_edge false false false false odd (inr (inr (inr h))) = cc

one_crossing : (r s t u on : Bool) → r ≡ false → s ≡ false → t ≡ true → u ≡ false
    → (on || different r (different s (different t (different u false)))) ≡ true
one_crossing r s t u on h k l m = rw (h, k, l, m) (or_true on)

inside : (west east south north : ℤ) (p : ℤ × ℤ) → west ≤ℤ p.0 → p.0 ≤ℤ east → south ≤ℤ p.1 → p.1 ≤ℤ north
    → in_polygon p ((west, south) ∷ (east, south) ∷ (east, north) ∷ (west, north) ∷ []) ≡ true
inside west east south north p w e s n =
    let a : ℤ × ℤ = (west, north) in
    let b : ℤ × ℤ = (west, south) in
    let c : ℤ × ℤ = (east, south) in
    let d : ℤ × ℤ = (east, north) in
    let odd = is_odd (a ∷ b ∷ c ∷ d ∷ a ∷ []) p in
    let border = on_border (a ∷ b ∷ c ∷ d ∷ a ∷ []) p in
    let edge = an_edge (on_edge a b p) (on_edge b c p) (on_edge c d p) (on_edge d a p) odd in
    by_lt_z west p.0
    (λ w'. by_lt_z p.0 east
    (λ e'. by_lt_z south p.1
    (λ s'. by_lt_z p.1 north
    (λ n'. one_crossing (crosses a b p) (crosses b c p) (crosses c d p) (crosses d a p) border
    (neither a b p (rises_west a b p w' w') (rises_west b a p w' w'))
    (neither b c p (not_past b c p s) (not_past c b p s))
    (crosses_east c d p e' e' ∙ rw (le_true south p.1 s, le_false north p.1 n') refl)
    (neither d a p (not_up d a p n') (not_up a d p n')))
    (λ n'. edge (inr (inr (inr (level p d a refl n n' (between_down east west p.0 w e)))))))
    (λ s'. edge (inr (inl (level p b c refl s' s (between_up west east p.0 w e))))))
    (λ e'. edge (inr (inr (inl (upright p c d refl e e' (between_up south north p.1 s n)))))))
    (λ w'. edge (inl (upright p a b refl w' w (between_down north south p.1 s n))))

from_pair : (ends : ℤ × ℤ) (v : ℤ) → in_pair v ends ≡ true → Between ends v
from_pair ends v h =
    let f = both_true-left (int_le ends.0 v) (int_le v ends.1) h in
    let t = both_true-right (int_le ends.0 v) (int_le v ends.1) h in
    record { from = omega (arith, ints); to = omega (arith, ints) }

as_extent : (b : Box3) (p : ℤ × ℤ) (t : Bool) → b.x.0 ≤ℤ b.x.1 → b.y.0 ≤ℤ b.y.1
    → (in_pair p.0 b.x && in_pair p.1 b.y) ≡ t → in_polygon p (corners_of b) ≡ t
as_extent b p true h k i =
    let x = from_pair b.x p.0 (both_true-left (in_pair p.0 b.x) (in_pair p.1 b.y) i) in
    let y = from_pair b.y p.1 (both_true-right (in_pair p.0 b.x) (in_pair p.1 b.y) i) in
    inside b.x.0 b.x.1 b.y.0 b.y.1 p x.from x.to y.from y.to
as_extent b p false h k i =
    let e : Extent = record { x = b.x; y = b.y } in
    let west : Between b.x b.x.0 = record { from = omega (arith, ints); to = h } in
    let east : Between b.x b.x.1 = record { from = h; to = omega (arith, ints) } in
    let south : Between b.y b.y.0 = record { from = omega (arith, ints); to = k } in
    let north : Between b.y b.y.1 = record { from = k; to = omega (arith, ints) } in
    let around : AllAround e (corners_of b) = (
      record { x = west; y = south },
      (record { x = east; y = south }, (record { x = east; y = north }, (record { x = west; y = north }, tt))),
    ) in
    beside p e (corners_of b) around i

pub rectangle : (p : Point) (b : Box3) → b.x.0 ≤ℤ b.x.1 → b.y.0 ≤ℤ b.y.1 → b.z ≡ None
    → in_polygon (p.x, p.y) (corners_of b) ≡ in_box p b
rectangle p b h k z =
    as_extent b (p.x, p.y) (in_pair p.x b.x && in_pair p.y b.y) h k refl
    ∙ rw z (sym (and_true (in_pair p.x b.x && in_pair p.y b.y)))
  where
    and_true : (t : Bool) → (t && true) ≡ t
    and_true true = refl
    and_true false = refl
