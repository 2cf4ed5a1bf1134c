-- what an edge says of a point, by the order of their heights and of two products
use Rattle.std.proofs.Common.{ℤ, pos, ◌-ℤ◌, ◌*ℤ◌, int_lt, int_le, ◌≤ℤ◌, ◌<ℤ◌, Bool, true, false, ◌&&◌, ◌||◌, ◌≡◌, refl, sym, ap, ◌∙◌}
use Rattle.std.specs.Ordering.{int_eq}
use Rattle.geo_tests.specs.Tests.{turn, in_pair, is_between, on_edge, rises_by, crosses}
use Rattle.geo_tests.proofs.Turns.{turn_back, int_lt-minus, int_eq-minus, int_eq-neg, le_true, le_false, lt_false}

pub and_false : (t : Bool) → (t && false) ≡ false
and_false true = refl
and_false false = refl

pub both_true-left : (s t : Bool) → (s && t) ≡ true → s ≡ true
both_true-left true t h = refl
both_true-left false t h = h

pub both_true-right : (s t : Bool) → (s && t) ≡ true → t ≡ true
both_true-right true t h = h
both_true-right false t h = cc

pub or_false : (t : Bool) → (t || false) ≡ t
or_false true = refl
or_false false = refl

pub or_true : (t : Bool) → (t || true) ≡ true
or_true true = refl
or_true false = refl

pub or_comm : (s t : Bool) → (s || t) ≡ (t || s)
or_comm true true = refl
or_comm true false = refl
or_comm false true = refl
or_comm false false = refl

-- ---- the way back

pub on_edge_back : (a b p : ℤ × ℤ) → on_edge b a p ≡ on_edge a b p
on_edge_back a b p =
    rw (
      turn_back a b p,
      int_eq-neg (turn a b p),
      or_comm (in_pair p.0 (b.0, a.0)) (in_pair p.0 (a.0, b.0)),
      or_comm (in_pair p.1 (b.1, a.1)) (in_pair p.1 (a.1, b.1)),
    ) refl

pub crosses_back : (a b p : ℤ × ℤ) → crosses b a p ≡ crosses a b p
crosses_back a b p = or_comm (rises_by b a p) (rises_by a b p)

-- ---- an edge from its lower end to its higher one, a point between their heights

between_true : (a b v : ℤ) → a ≤ℤ v → v ≤ℤ b → is_between a b v ≡ true
between_true a b v h k = rw (le_true a v h, le_true v b k) refl

pub on_edge_is : (a b p : ℤ × ℤ) (left right : ℤ) → left ≡ (b.0 -ℤ a.0) *ℤ (p.1 -ℤ a.1) → right ≡ (b.1 -ℤ a.1) *ℤ (p.0 -ℤ a.0)
    → a.1 ≤ℤ p.1 → p.1 ≤ℤ b.1 → on_edge a b p ≡ (int_eq left right && is_between a.0 b.0 p.0)
on_edge_is a b p left right l r h k =
    rw (sym l, sym r, int_eq-minus left right, between_true a.1 b.1 p.1 h k)
    (and_true (int_eq left right && is_between a.0 b.0 p.0))
  where
    and_true : (t : Bool) → (t && true) ≡ t
    and_true true = refl
    and_true false = refl

-- the way down from b to a doesn't rise past a point that isn't below a
not_rising : (a b p : ℤ × ℤ) → a.1 ≤ℤ p.1 → rises_by b a p ≡ false
not_rising a b p h = rw (lt_false p.1 a.1 h, and_false (int_le b.1 p.1)) refl

pub crosses_is : (a b p : ℤ × ℤ) (left right : ℤ) → left ≡ (b.0 -ℤ a.0) *ℤ (p.1 -ℤ a.1) → right ≡ (b.1 -ℤ a.1) *ℤ (p.0 -ℤ a.0)
    → a.1 ≤ℤ p.1 → crosses a b p ≡ (int_lt p.1 b.1 && int_lt right left)
crosses_is a b p left right l r h =
    ap (λ t. rises_by a b p || t) (not_rising a b p h)
    ∙ or_false (rises_by a b p)
    ∙ rw (le_true a.1 p.1 h, sym l, sym r, int_lt-minus left right) refl

-- ---- an edge that is above or below the point

pub not_on_edge : (a b p : ℤ × ℤ) → in_pair p.1 (a.1, b.1) ≡ false → in_pair p.1 (b.1, a.1) ≡ false → on_edge a b p ≡ false
not_on_edge a b p h k = rw (h, k) (and_false (int_eq (turn a b p) (pos 0) && is_between a.0 b.0 p.0))

pub not_from : (a b v : ℤ) → v <ℤ a → in_pair v (a, b) ≡ false
not_from a b v h = rw (le_false a v h) refl

pub not_to : (a b v : ℤ) → b <ℤ v → in_pair v (a, b) ≡ false
not_to a b v h = rw (le_false v b h) (and_false (int_le a v))
