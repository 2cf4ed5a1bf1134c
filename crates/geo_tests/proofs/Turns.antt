-- products of differences, and tests of whole numbers
use Rattle.std.proofs.Common.{arith, ℕ, zero, suc, negsuc, ◌+◌, ◌*◌, ℤ, pos, ◌-ℤ◌, ◌*ℤ◌, neg_ℤ, int_lt, int_le, ◌≤ℤ◌, ◌<ℤ◌, true, false, ◌≡◌, refl, ap}
use Rattle.std.specs.Ordering.{int_eq}
use Rattle.std.proofs.lemmas.Int.{ints}
use Rattle.std.proofs.lemmas.Nat.{mul-le}
use borrow.Author.Differences.{up, down, product_is, same_in}
use Rattle.geo_tests.specs.Tests.{turn}

minus_is : (x y : ℤ) → up (x -ℤ y) + down x + up y ≡ down (x -ℤ y) + up x + down y
minus_is x y = omega (arith, ints)

minus_times : (x y c : ℤ) → (x -ℤ y) *ℤ c ≡ x *ℤ c -ℤ y *ℤ c
minus_times x y c =
    let e = minus_is x y in
    let u = ap (λ (n : ℕ). n * up c) e in
    let d = ap (λ (n : ℕ). n * down c) e in
    same_in _ _ (omega (arith, product_is (x -ℤ y) c, product_is x c, product_is y c, minus_is (x *ℤ c) (y *ℤ c), u, d))

times_minus : (c x y : ℤ) → c *ℤ (x -ℤ y) ≡ c *ℤ x -ℤ c *ℤ y
times_minus c x y =
    let e = minus_is x y in
    let u = ap (λ (n : ℕ). n * up c) e in
    let d = ap (λ (n : ℕ). n * down c) e in
    same_in _ _ (omega (arith, product_is c (x -ℤ y), product_is c x, product_is c y, minus_is (c *ℤ x) (c *ℤ y), u, d))

products : (x y z w : ℤ) → (x -ℤ y) *ℤ (z -ℤ w) ≡ (x *ℤ z -ℤ x *ℤ w) -ℤ (y *ℤ z -ℤ y *ℤ w)
products x y z w = rw (minus_times x y (z -ℤ w), times_minus x z w, times_minus y z w) refl

-- the way back turns the other way
pub turn_back : (a b p : ℤ × ℤ) → turn b a p ≡ neg_ℤ (turn a b p)
turn_back a b p =
    rw (products a.0 b.0 p.1 b.1, products a.1 b.1 p.0 b.0, products b.0 a.0 p.1 a.1, products b.1 a.1 p.0 a.0)
    (omega (arith, ints))

pub int_lt-minus : (u v : ℤ) → int_lt (pos 0) (u -ℤ v) ≡ int_lt v u
int_lt-minus u v = grind (arith, ints)

pub int_eq-minus : (u v : ℤ) → int_eq (u -ℤ v) (pos 0) ≡ int_eq u v
int_eq-minus u v = grind (arith, ints)

pub int_eq-neg : (u : ℤ) → int_eq (neg_ℤ u) (pos 0) ≡ int_eq u (pos 0)
int_eq-neg u = grind (arith, ints)

pub le_true : (a b : ℤ) → a ≤ℤ b → int_le a b ≡ true
le_true a b h = grind (arith, ints)

pub le_false : (a b : ℤ) → b <ℤ a → int_le a b ≡ false
le_false a b h = grind (arith, ints)

pub lt_true : (a b : ℤ) → a <ℤ b → int_lt a b ≡ true
lt_true a b h = grind (arith, ints)

pub lt_false : (a b : ℤ) → b ≤ℤ a → int_lt a b ≡ false
lt_false a b h = grind (arith, ints)

-- ---- the products of an edge that rises past a point

-- a point to the east of both ends
pub east_product : (w s t v : ℤ) → pos 0 ≤ℤ s → s ≤ℤ t → pos 0 ≤ℤ v → w ≤ℤ v → (w *ℤ s) ≤ℤ (t *ℤ v)
east_product w (negsuc s) t v a b c d = absurd (omega (arith, ints))
east_product w (pos s) (negsuc t) v a b c d = absurd (omega (arith, ints))
east_product w (pos s) (pos t) (negsuc v) a b c d = absurd (omega (arith, ints))
east_product (pos w) (pos s) (pos t) (pos v) a b c d =
    let k = mul-le w s v t (omega (arith, ints)) (omega (arith, ints)) in
    omega (arith, ints)
east_product (negsuc w) (pos s) (pos t) (pos v) a b c d = omega (arith, ints)

-- a point to the west of both ends
pub west_product : (w s t v : ℤ) → pos 0 ≤ℤ s → s <ℤ t → v <ℤ pos 0 → v <ℤ w → (t *ℤ v) <ℤ (w *ℤ s)
west_product w (negsuc s) t v a b c d = absurd (omega (arith, ints))
west_product w (pos s) (negsuc t) v a b c d = absurd (omega (arith, ints))
west_product w (pos s) (pos t) (pos v) a b c d = absurd (omega (arith, ints))
west_product (pos w) (pos s) (pos zero) (negsuc v) a b c d = absurd (omega (arith, ints))
west_product (pos w) (pos s) (pos (suc t)) (negsuc v) a b c d = omega (arith, ints)
west_product (negsuc w) (pos s) (pos zero) (negsuc v) a b c d = absurd (omega (arith, ints))
west_product (negsuc w) (pos s) (pos (suc t)) (negsuc v) a b c d =
    let k = mul-le (suc w) s v t (omega (arith, ints)) (omega (arith, ints)) in
    omega (arith, ints)
