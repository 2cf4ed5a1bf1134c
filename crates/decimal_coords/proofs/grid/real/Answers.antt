use Rattle.std.proofs.Common.{arith, ℕ, ◌*◌, ◌^◌, ◌≤◌, ◌<◌, ap, ◌∙◌, ℤ, ◌*ℤ◌, ◌+ℤ◌, w64, FitsSigned}
use Rattle.std.specs.Int.{w32}
use Rattle.std.specs.Prelude.{unsigned_abs}
use Rattle.std.proofs.lemmas.Int.{ints, to_z-of_z, unsigned_abs-mul, fits_signed_from_abs}
use Rattle.std.proofs.lemmas.Nat.{mul-le}
use Rattle.decimal_coords.proofs.grid.real.Goals as goal

sum_small : (m o : ℤ) (b : ℕ) → unsigned_abs m ≤ 2 ^ 31 * 10 ^ 9 → unsigned_abs o ≤ 10 ^ 18 → unsigned_abs (m +ℤ o) < 2 ^ 63
sum_small m o b h k = omega (arith, ints)

pub returns : goal.returns
returns c =
    let r : ℤ = c.args.raw in
    let n : ℤ = c.nano.result in
    let o : ℤ = c.args.off in
    let a = to_z-of_z w32 r c.ranges.raw in
    let rb : unsigned_abs r ≤ 2 ^ 31 = omega (arith, ints, c.ranges.raw) in
    let nb : unsigned_abs n ≤ 10 ^ 9 = omega (arith, ints, c.nano.ensures.low, c.nano.ensures.high) in
    let b = to_z-of_z w64 r (fits_signed_from_abs w64 r (omega arith)) in
    let d = to_z-of_z w64 n (fits_signed_from_abs w64 n (omega arith)) in
    let e = to_z-of_z w64 o c.ranges.off in
    let m : unsigned_abs (r *ℤ n) ≤ 2 ^ 31 * 10 ^ 9 = rw (unsigned_abs-mul r n) (mul-le (unsigned_abs r) (unsigned_abs n) (2 ^ 31) (10 ^ 9) rb nb) in
    let p = to_z-of_z w64 (r *ℤ n) (fits_signed_from_abs w64 (r *ℤ n) (omega arith)) in
    let f : FitsSigned w64 (r *ℤ n +ℤ o) = fits_signed_from_abs w64 (r *ℤ n +ℤ o) (sum_small (r *ℤ n) o 0 m c.requires) in
    rw (a, b, d, p, e) (to_z-of_z w64 (r *ℤ n +ℤ o) f ∙ ap (λ x. r *ℤ x +ℤ o) c.nano.ensures.value)
