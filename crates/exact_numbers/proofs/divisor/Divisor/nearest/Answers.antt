use Rattle.std.proofs.Common.{arith, rules, ◌∙◌, ◌≡◌, ℕ, ◌+◌, ◌*◌, ◌/◌, ◌^◌, ◌<◌, ◌≤◌, pos, neg_ℤ, ◌-ℤ◌, w64, to_z, of_z}
use Rattle.std.proofs.Math.Nat.{mul-le-mul_left}
use Rattle.std.proofs.lemmas.Nat.{div_below}
use Rattle.std.proofs.lemmas.Int.{ints, to_z-of_z}
use Rattle.exact_numbers.proofs.HalfAway.{is_positive, is_negative}
use Rattle.exact_numbers.proofs.divisor.Divisor.nearest.Goals as goal

negated : (q : ℕ) → q < 2 ^ 63 → to_z w64 (of_z w64 (pos 0 -ℤ to_z w64 q)) ≡ neg_ℤ (pos q)
negated q h = omega (arith, ints)

kept : (q : ℕ) → q < 2 ^ 63 → to_z w64 q ≡ pos q
kept q h = omega (arith, ints)

-- a half rounded away from zero doesn't get above what is divided
quotient_small : (s u : ℕ) → s ≤ 5 * 10 ^ 18 → 1 ≤ u → (s + u / 2) / u < 2 ^ 63
quotient_small s u h k =
    let wide : s * 1 ≤ s * u = mul-le-mul_left s k in
    let below = div_below (s + u / 2) u (s + 1) k (omega (arith, wide, k)) in
    omega (arith, below, h)

pub returns-then-n-lt0 : goal.returns-then-n-lt0
returns-then-n-lt0 c =
    let i = to_z-of_z w64 c.args.n c.ranges.n in
    let s : ℕ = c.unsigned_abs.result in
    let by : ℕ = c.args.self.now.by in
    let low : 1 ≤ by = search rules in
    let sa : s ≤ 5 * 10 ^ 18 = grind (arith, ints) in
    let z : c.args.n ≡ neg_ℤ (pos s) = grind (arith, ints) in
    let some : 0 < s = grind (arith, ints) in
    rw c.quotient-size.ensures (negated ((s + by / 2) / by) (quotient_small s by sa low) ∙ is_negative c.args.n s by (omega arith) z some)

pub returns-else-n-lt0 : goal.returns-else-n-lt0
returns-else-n-lt0 c =
    let i = to_z-of_z w64 c.args.n c.ranges.n in
    let s : ℕ = c.unsigned_abs.result in
    let by : ℕ = c.args.self.now.by in
    let low : 1 ≤ by = search rules in
    let sa : s ≤ 5 * 10 ^ 18 = grind (arith, ints) in
    let z : c.args.n ≡ pos s = grind (arith, ints) in
    rw c.quotient-size.ensures (kept ((s + by / 2) / by) (quotient_small s by sa low) ∙ is_positive c.args.n s by (omega arith) z)
