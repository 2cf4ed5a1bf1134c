use Rattle.std.proofs.Common.{◌∙◌, rules, arith, sym, refl, ◌≡◌, ◌+◌, ◌*◌, ◌/◌, ◌%◌, ◌^◌, ◌<◌, ◌≤◌, ℕ}
use Rattle.std.proofs.lemmas.Nat.{mod_below}
use Rattle.std.proofs.Math.Nat.{div-le_self}
use Rattle.exact_numbers.proofs.Guesses.{three_digits, last_rest}
use Rattle.exact_numbers.proofs.divisor.Divisor.divide_wide.Goals as goal

-- the digits of a quotient, and what is left of each
record Divided (n by high rest middle left low last : ℕ) : Type 0 where
  first : high ≡ n / 2 ^ 64 / by
  carried : rest ≡ n / 2 ^ 64 % by
  second : middle ≡ (rest * 2 ^ 32 % 2 ^ 64 + n / 2 ^ 32 % 2 ^ 32) / by
  carried_on : left ≡ (rest * 2 ^ 32 % 2 ^ 64 + n / 2 ^ 32 % 2 ^ 32) % by
  third : low ≡ (left * 2 ^ 32 % 2 ^ 64 + n % 2 ^ 32) / by
  over : last ≡ (left * 2 ^ 32 % 2 ^ 64 + n % 2 ^ 32) % by

module _ (n by high rest middle left low last : ℕ) (some : 1 ≤ by) (few : by ≤ 2 ^ 32) (d : Divided n by high rest middle left low last) where
  shifted : rest * 2 ^ 32 % 2 ^ 64 ≡ rest * 2 ^ 32
  shifted = let small = mod_below (n / 2 ^ 64) by some in omega (arith, small, d.carried, few)

  shifted_on : left * 2 ^ 32 % 2 ^ 64 ≡ left * 2 ^ 32
  shifted_on = let small = mod_below (rest * 2 ^ 32 % 2 ^ 64 + n / 2 ^ 32 % 2 ^ 32) by some in omega (arith, small, d.carried_on, few)

  digits : (n / 2 ^ 64 * 2 ^ 32 + n / 2 ^ 32 % 2 ^ 32) * 2 ^ 32 + n % 2 ^ 32 ≡ n
  digits = omega arith

  left_is : left ≡ (n / 2 ^ 64 % by * 2 ^ 32 + n / 2 ^ 32 % 2 ^ 32) % by
  left_is = rw (← d.carried, ← shifted) d.carried_on

  joined : high * 2 ^ 64 + middle * 2 ^ 32 + low ≡ n / by
  joined =
      let m : middle ≡ (n / 2 ^ 64 % by * 2 ^ 32 + n / 2 ^ 32 % 2 ^ 32) / by = rw (← d.carried, ← shifted) d.second in
      let w : low ≡ ((n / 2 ^ 64 % by * 2 ^ 32 + n / 2 ^ 32 % 2 ^ 32) % by * 2 ^ 32 + n % 2 ^ 32) / by = rw (← left_is, ← shifted_on) d.third in
      rw (d.first, m, w) (sym (three_digits (n / 2 ^ 64) (n / 2 ^ 32 % 2 ^ 32) (n % 2 ^ 32) by some) ∙ (rw digits refl))

  left_over : last ≡ n % by
  left_over =
      let w : last ≡ ((n / 2 ^ 64 % by * 2 ^ 32 + n / 2 ^ 32 % 2 ^ 32) % by * 2 ^ 32 + n % 2 ^ 32) % by = rw (← left_is, ← shifted_on) d.over in
      w ∙ sym (last_rest (n / 2 ^ 64) (n / 2 ^ 32 % 2 ^ 32) (n % 2 ^ 32) by some) ∙ (rw digits refl)

  -- the quotient has no more digits than what is divided
  fits : n < 2 ^ 128 → (high * 2 ^ 64 % 2 ^ 128 + middle * 2 ^ 32 % 2 ^ 128 + low < 2 ^ 128) × (high * 2 ^ 64 % 2 ^ 128 + middle * 2 ^ 32 % 2 ^ 128 + low ≡ n / by)
  fits wide = let sum = joined in let least = div-le_self n by in (omega (arith, sum, least, wide), omega (arith, sum, least, wide))

divided : (c : goal.After-divide-low) → Divided c.args.n c.args.self.now.by c.divide-high.result.0 c.divide-high.result.1 c.divide-middle.result.0 c.divide-middle.result.1 c.divide-low.result.0 c.divide-low.result.1
divided c = record {
  first = c.divide-high.ensures.quotient;
  carried = c.divide-high.ensures.rest;
  second = c.divide-middle.ensures.quotient;
  carried_on = c.divide-middle.ensures.rest;
  third = c.divide-low.ensures.quotient;
  over = c.divide-low.ensures.rest;
}

pub overflow_add-result-2 : goal.overflow_add-result-2
overflow_add-result-2 c =
    let d = fits c.args.n c.args.self.now.by c.divide-high.result.0 c.divide-high.result.1 c.divide-middle.result.0 c.divide-middle.result.1 c.divide-low.result.0 c.divide-low.result.1 (search rules) c.requires (divided c) (omega (arith, c.ranges.n)) in
    omega (arith, d.0)

pub returns-clause-quotient : goal.returns-clause-quotient
returns-clause-quotient c =
    (fits c.args.n c.args.self.now.by c.divide-high.result.0 c.divide-high.result.1 c.divide-middle.result.0 c.divide-middle.result.1 c.divide-low.result.0 c.divide-low.result.1 (search rules) c.requires (divided c) (omega (arith, c.ranges.n))).1

pub returns-clause-rest : goal.returns-clause-rest
returns-clause-rest c =
    left_over c.args.n c.args.self.now.by c.divide-high.result.0 c.divide-high.result.1 c.divide-middle.result.0 c.divide-middle.result.1 c.divide-low.result.0 c.divide-low.result.1 (search rules) c.requires (divided c)
