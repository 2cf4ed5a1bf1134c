use Rattle.std.proofs.Common.{arith, ◌≡◌, ℕ, ◌+◌, ◌/◌, ◌^◌, ◌<◌, ◌≤◌, ℤ, pos, neg_ℤ, ◌-ℤ◌, ◌≤ℤ◌, to_z, of_z}
use Rattle.std.specs.Int.{w128}
use Rattle.std.specs.Prelude.{unsigned_abs}
use Rattle.std.proofs.lemmas.Int.{ints, to_z-of_z}
use Rattle.exact_numbers.proofs.HalfAway.{is_positive, is_negative, quotient_small}
use Rattle.exact_numbers.proofs.OneRounding.{from_half_away}
use Rattle.exact_numbers.proofs.half_away.Goals as goal

negated : (q : ℕ) → q < 2 ^ 126 → to_z w128 (of_z w128 (pos 0 -ℤ to_z w128 q)) ≡ neg_ℤ (pos q)
negated q h = omega (arith, ints)

kept : (q : ℕ) → q < 2 ^ 126 → to_z w128 q ≡ pos q
kept q h = omega (arith, ints)

-- what the code divides, as plain numbers
unit_is : (den : ℤ) → pos 1 ≤ℤ den → den ≤ℤ pos (10 ^ 28) → (0 < unsigned_abs den) × (unsigned_abs den ≤ 10 ^ 28)
unit_is den low high = (omega (arith, ints), omega (arith, ints))

pub returns-then-num-lt0-clause-value : goal.returns-then-num-lt0-clause-value
returns-then-num-lt0-clause-value c =
    let i = to_z-of_z w128 c.args.num c.ranges.num in
    let d = to_z-of_z w128 c.args.den c.ranges.den in
    let s : ℕ = c.unsigned_abs.result in
    let u : ℕ = unsigned_abs c.args.den in
    let b = unit_is c.args.den c.requires.low c.requires.high in
    let z : c.args.num ≡ neg_ℤ (pos s) = grind (arith, ints) in
    let sa : s ≤ 10 ^ 37 = grind (arith, ints) in
    let some : 0 < s = grind (arith, ints) in
    rw (d, negated ((s + u / 2) / u) (quotient_small s u b.0 b.1 sa)) (is_negative c.args.num s u b.0 z some)

pub returns-then-num-lt0-clause-nearest : goal.returns-then-num-lt0-clause-nearest
returns-then-num-lt0-clause-nearest c =
    let b = unit_is c.args.den c.requires.low c.requires.high in
    from_half_away c.args.num (unsigned_abs c.args.den) _ b.0 (returns-then-num-lt0-clause-value c)

pub returns-else-num-lt0-clause-value : goal.returns-else-num-lt0-clause-value
returns-else-num-lt0-clause-value c =
    let i = to_z-of_z w128 c.args.num c.ranges.num in
    let d = to_z-of_z w128 c.args.den c.ranges.den in
    let s : ℕ = c.unsigned_abs.result in
    let u : ℕ = unsigned_abs c.args.den in
    let b = unit_is c.args.den c.requires.low c.requires.high in
    let z : c.args.num ≡ pos s = grind (arith, ints) in
    let sa : s ≤ 10 ^ 37 = grind (arith, ints) in
    rw (d, kept ((s + u / 2) / u) (quotient_small s u b.0 b.1 sa)) (is_positive c.args.num s u b.0 z)

pub returns-else-num-lt0-clause-nearest : goal.returns-else-num-lt0-clause-nearest
returns-else-num-lt0-clause-nearest c =
    let b = unit_is c.args.den c.requires.low c.requires.high in
    from_half_away c.args.num (unsigned_abs c.args.den) _ b.0 (returns-else-num-lt0-clause-value c)
