-- sizes of signed sums and products
use Rattle.std.proofs.Common.{◌≡◌, ℕ, zero, suc, ◌+◌, ◌-◌, ◌*◌, arith, refl, pos, neg_ℤ, ◌*ℤ◌, ◌-ℤ◌}
use Rattle.std.specs.Prelude.{unsigned_abs}
use Rattle.std.proofs.Math.IntN.{negsuc-*ℤ-pos}
use Rattle.std.proofs.lemmas.Int.{ints}

pub neg_mul : (x y : ℕ) → neg_ℤ (pos x) *ℤ pos y ≡ neg_ℤ (pos (x * y))
neg_mul zero y = let e : 0 * y ≡ 0 = omega arith in rw e refl
neg_mul (suc x) y = negsuc-*ℤ-pos x y

pub abs_diff : (x y : ℕ) → unsigned_abs (pos x -ℤ pos y) ≡ (x - y) + (y - x)
abs_diff x y = omega (arith, ints)

pub abs_flip : (x y : ℕ) → unsigned_abs (neg_ℤ (pos x) -ℤ neg_ℤ (pos y)) ≡ (x - y) + (y - x)
abs_flip x y = omega (arith, ints)

pub abs_neg : (x : ℕ) → unsigned_abs (neg_ℤ (pos x)) ≡ x
abs_neg x = omega (arith, ints)
