use Rattle.std.proofs.Common.{◌∙◌, ◌≡◌, ◌+◌, ◌-◌, ◌*◌, ◌/◌, ◌%◌, ◌^◌, ◌<◌, ◌≤◌, subst, sym, rules, arith, ℕ}
use Rattle.exact_numbers.proofs.Guesses.{guess_below, guess_near, parts}
use Rattle.exact_numbers.proofs.divisor.Divisor.divide.Goals as goal

-- what is guessed, and what is left
module _ (n r by guess : ℕ) (e : guess ≡ n * r / 2 ^ 64) where
  below : r * by ≤ 2 ^ 64 → guess * by ≤ n
  below h = subst (λ (g : ℕ). g * by ≤ n) (sym e) (guess_below n r by h)

  above : 1 ≤ by → 2 ^ 64 ≤ r * by + by → n < 2 ^ 64 → n < (guess + 2) * by
  above some near fits = subst (λ (g : ℕ). n < (g + 2) * by) (sym e) (guess_near n r by some near fits)

-- the guess and one more are the quotient where the rest is the divisor or more
one_more : (n guess by : ℕ) → guess * by ≤ n → by ≤ n - guess * by → n < (guess + 2) * by → (guess + 1 ≡ n / by) × (n - guess * by - by ≡ n % by)
one_more n guess by below much above =
    let found = parts n (guess + 1) by (omega (arith, below, much)) (omega (arith, below, much, above)) in
    (found.0, (omega (arith, below, much)) ∙ found.1)

pub overflow_mul-rest : goal.overflow_mul-rest
overflow_mul-rest c =
    let h : c.high_half-guess.result * c.args.self.now.by ≤ c.args.n = below c.args.n c.args.self.now.reciprocal c.args.self.now.by c.high_half-guess.result c.high_half-guess.ensures (search rules) in
    omega (arith, h, c.ranges.n)

pub overflow_sub-rest : goal.overflow_sub-rest
overflow_sub-rest c = below c.args.n c.args.self.now.reciprocal c.args.self.now.by c.high_half-guess.result c.high_half-guess.ensures (search rules)

pub returns-then-rest-self-clause-quotient : goal.returns-then-rest-self-clause-quotient
returns-then-rest-self-clause-quotient c =
    let h = below c.args.n c.args.self.now.reciprocal c.args.self.now.by c.high_half-guess.result c.high_half-guess.ensures (search rules) in
    (parts c.args.n c.high_half-guess.result c.args.self.now.by h c.if-rest-self.true).0

pub returns-then-rest-self-clause-rest : goal.returns-then-rest-self-clause-rest
returns-then-rest-self-clause-rest c =
    let h = below c.args.n c.args.self.now.reciprocal c.args.self.now.by c.high_half-guess.result c.high_half-guess.ensures (search rules) in
    (parts c.args.n c.high_half-guess.result c.args.self.now.by h c.if-rest-self.true).1

pub returns-else-rest-self-clause-quotient : goal.returns-else-rest-self-clause-quotient
returns-else-rest-self-clause-quotient c =
    let h = below c.args.n c.args.self.now.reciprocal c.args.self.now.by c.high_half-guess.result c.high_half-guess.ensures (search rules) in
    let a = above c.args.n c.args.self.now.reciprocal c.args.self.now.by c.high_half-guess.result c.high_half-guess.ensures (search rules) (search rules) (search rules) in
    (one_more c.args.n c.high_half-guess.result c.args.self.now.by h (omega (arith, c.if-rest-self.false)) a).0

pub returns-else-rest-self-clause-rest : goal.returns-else-rest-self-clause-rest
returns-else-rest-self-clause-rest c =
    let h = below c.args.n c.args.self.now.reciprocal c.args.self.now.by c.high_half-guess.result c.high_half-guess.ensures (search rules) in
    let a = above c.args.n c.args.self.now.reciprocal c.args.self.now.by c.high_half-guess.result c.high_half-guess.ensures (search rules) (search rules) (search rules) in
    (one_more c.args.n c.high_half-guess.result c.args.self.now.by h (omega (arith, c.if-rest-self.false)) a).1
