use Rattle.std.proofs.Common.{arith, ◌≡◌, ℕ, ◌+◌, ◌-◌, ◌^◌, ◌<◌, subst}
use Rattle.std.proofs.lemmas.List.{drop-set}
use Rattle.decimal_coords.proofs.Padded.{padded_one, padded_two}
use Rattle.decimal_coords.proofs.put.put_first.Goals as goal

one_digit : (n count : ℕ) → count ≡ 1 → n < 10 ^ count → n < 10
one_digit n count e h = let f : n < 10 ^ 1 = subst (λ k. n < 10 ^ k) e h in omega arith

two_digits : (n count : ℕ) → count ≡ 2 → n < 10 ^ count → n < 100
two_digits n count e h = let f : n < 10 ^ 2 = subst (λ k. n < 10 ^ k) e h in omega arith

pub returns-then-count-eq1-clause-written : goal.returns-then-count-eq1-clause-written
returns-then-count-eq1-clause-written c =
    let one : c.args.count ≡ 1 = omega arith in
    let e : c.args.end - 1 + 1 ≡ c.args.end = omega arith in
    rw (drop-set c.args.line.now (c.args.end - 1) _ (omega arith), e, one, padded_one c.args.n (one_digit c.args.n c.args.count one c.requires.small))

pub returns-clause-written : goal.returns-clause-written
returns-clause-written c =
    let two : c.args.count ≡ 2 = omega arith in
    let e : c.args.end - 2 + 2 ≡ c.args.end = omega arith in
    rw (c.put_pair.ensures.written, e, two, padded_two c.args.n (two_digits c.args.n c.args.count two c.requires.small))
