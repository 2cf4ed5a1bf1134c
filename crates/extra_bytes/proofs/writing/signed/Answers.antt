use Rattle.std.proofs.Common.{arith, ◌≡◌, ℕ, ◌^◌, ◌<◌, ℤ, pos, negsuc, neg_ℤ, ◌-ℤ◌, ◌<ℤ◌, ◌≤ℤ◌, refl, ◌∙◌, to_z, of_z}
use Rattle.std.specs.Int.{w128}
use Rattle.std.proofs.lemmas.Int.{ints, to_z-of_z}
use Rattle.exact_numbers.specs.Rounding.{signed_as}
use Rattle.extra_bytes.proofs.writing.signed.Goals as goal

negated : (q : ℕ) → q < 2 ^ 64 → to_z w128 (of_z w128 (pos 0 -ℤ to_z w128 q)) ≡ neg_ℤ (pos q)
negated q h = omega (arith, ints)

kept : (q : ℕ) → q < 2 ^ 64 → to_z w128 q ≡ pos q
kept q h = omega (arith, ints)

below : (z : ℤ) (q : ℕ) → z <ℤ pos 0 → neg_ℤ (pos q) ≡ signed_as z q
below (pos n) q h = absurd (omega (arith, ints, h))
below (negsuc n) q h = refl

from_zero : (z : ℤ) (q : ℕ) → pos 0 ≤ℤ z → pos q ≡ signed_as z q
from_zero (pos n) q h = refl
from_zero (negsuc n) q h = absurd (omega (arith, ints, h))

pub returns-then-distance-lt0 : goal.returns-then-distance-lt0
returns-then-distance-lt0 c =
    let i = to_z-of_z w128 c.args.distance c.ranges.distance in
    let low : c.args.distance <ℤ pos 0 = grind (arith, ints) in
    negated c.args.size (omega arith) ∙ below c.args.distance c.args.size low

pub returns-else-distance-lt0 : goal.returns-else-distance-lt0
returns-else-distance-lt0 c =
    let i = to_z-of_z w128 c.args.distance c.ranges.distance in
    let high : pos 0 ≤ℤ c.args.distance = grind (arith, ints) in
    kept c.args.size (omega arith) ∙ from_zero c.args.distance c.args.size high
