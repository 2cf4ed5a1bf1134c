use Rattle.std.proofs.Common.{arith, ◌≡◌, ℕ, ◌+◌, ◌*◌, ◌/◌, ◌^◌, ◌<◌, ◌≤◌, pos, neg_ℤ, ◌-ℤ◌, w64, to_z, of_z}
use Rattle.std.proofs.Math.Nat.{div-le_self}
use Rattle.std.proofs.lemmas.Int.{ints, to_z-of_z}
use Rattle.exact_numbers.proofs.HalfAway.{is_positive, is_negative}
use Rattle.decimal_coords.proofs.grid.steps.Goals as goal

negated : (q : ℕ) → q < 2 ^ 63 → to_z w64 (of_z w64 (pos 0 -ℤ to_z w64 q)) ≡ neg_ℤ (pos q)
negated q h = omega (arith, ints)

kept : (q : ℕ) → q < 2 ^ 63 → to_z w64 q ≡ pos q
kept q h = omega (arith, ints)

quotient_small : (s u : ℕ) → s ≤ 5 * 10 ^ 18 → u ≤ 10 ^ 9 → (s + u / 2) / u < 2 ^ 63
quotient_small s u h k = let d = div-le_self (s + u / 2) u in omega arith

pub returns-then-distance-lt0 : goal.returns-then-distance-lt0
returns-then-distance-lt0 c =
    let i = to_z-of_z w64 c.args.distance c.ranges.distance in
    let s : ℕ = c.unsigned_abs.result in
    let sa : s ≤ 5 * 10 ^ 18 = grind (arith, ints) in
    let z : c.args.distance ≡ neg_ℤ (pos s) = grind (arith, ints) in
    let some : 0 < s = grind (arith, ints) in
    record { value = rw (negated ((s + c.args.unit / 2) / c.args.unit) (quotient_small s c.args.unit sa c.requires.high)) (is_negative c.args.distance s c.args.unit (omega arith) z some) }

pub returns-else-distance-lt0 : goal.returns-else-distance-lt0
returns-else-distance-lt0 c =
    let i = to_z-of_z w64 c.args.distance c.ranges.distance in
    let s : ℕ = c.unsigned_abs.result in
    let sa : s ≤ 5 * 10 ^ 18 = grind (arith, ints) in
    let z : c.args.distance ≡ pos s = grind (arith, ints) in
    record { value = rw (kept ((s + c.args.unit / 2) / c.args.unit) (quotient_small s c.args.unit sa c.requires.high)) (is_positive c.args.distance s c.args.unit (omega arith) z) }
