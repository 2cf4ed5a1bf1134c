use Rattle.std.proofs.Common.{arith, rules, ◌≡◌, ℕ, ◌-◌, ◌*◌, ◌%◌, ◌^◌, ◌≤◌, sym, refl, ◌<◌, ◌∙◌}
use Rattle.std.specs.Int.Count.{count_leading_zeros}
use Rattle.std.proofs.lemmas.Nat.{div-add-mod', le-div}
use Rattle.std.proofs.Math.Nat.{div-le_self}
use Rattle.ieee_words.proofs.Bits.{shifted_up, kept_whole}
use Rattle.ieee_words.proofs.rounding.divided.Goals as goal

pub overflow_sub-up : goal.overflow_sub-up
overflow_sub-up c = let t = shifted_up c.args.size (omega arith) (omega arith) in omega arith

-- what is divided is shifted as far up as 127 bits hold it
shifted : (size : ℕ) → 0 < size → size ≤ 2 ^ 63 → (2 ^ 126 ≤ size * 2 ^ (count_leading_zeros 128 size - 1) % 2 ^ 128)
    × (size * 2 ^ (count_leading_zeros 128 size - 1) % 2 ^ 128 < 2 ^ 127)
    × (size * 2 ^ (count_leading_zeros 128 size - 1) % 2 ^ 128 ≡ size * 2 ^ (count_leading_zeros 128 size - 1))
shifted size some few =
    let t = shifted_up size some (omega (arith, few)) in
    let w : size * 2 ^ (count_leading_zeros 128 size - 1) % 2 ^ 128 ≡ size * 2 ^ (count_leading_zeros 128 size - 1) =
    kept_whole (size * 2 ^ (count_leading_zeros 128 size - 1)) (2 ^ 128) (omega arith) in
    (omega arith, omega arith, w)

pub returns-clause-value : goal.returns-clause-value
returns-clause-value c =
    let w = shifted c.args.size c.requires.some c.requires.not_large in
    let whole = div-add-mod' (c.args.size * 2 ^ (count_leading_zeros 128 c.args.size - 1) % 2 ^ 128) c.args.divisor.by in
    sym w.2 ∙ sym whole ∙ (rw (c.divide_wide-quotient.ensures.quotient, c.divide_wide-quotient.ensures.rest) refl)

pub returns-clause-low : goal.returns-clause-low
returns-clause-low c =
    let w = shifted c.args.size c.requires.some c.requires.not_large in
    let some : 1 ≤ c.args.divisor.by = search rules in
    rw c.divide_wide-quotient.ensures.quotient (le-div (2 ^ 96) (c.args.size * 2 ^ (count_leading_zeros 128 c.args.size - 1) % 2 ^ 128) c.args.divisor.by some (omega (arith, w.0, c.requires.divisor_small)))

pub returns-clause-high : goal.returns-clause-high
returns-clause-high c =
    let w = shifted c.args.size c.requires.some c.requires.not_large in
    let least = div-le_self (c.args.size * 2 ^ (count_leading_zeros 128 c.args.size - 1) % 2 ^ 128) c.args.divisor.by in
    omega (arith, w.1, least, c.divide_wide-quotient.ensures.quotient)

pub returns-clause-up_low : goal.returns-clause-up_low
returns-clause-up_low c = let t = shifted_up c.args.size (omega arith) (omega arith) in omega arith
