use Rattle.std.proofs.Common.{◌≡◌, ◌<◌, ◌+◌, ℕ, nat_le, false, arith, sym, add_comm}
use Rattle.std.proofs.lemmas.Nat.{mul-le}
use Rattle.geo_tests.specs.Tests.{square}
use Rattle.geo_tests.proofs.discs.is_within.Goals as goal
use Rattle.geo_tests.proofs.discs.is_within.Goals.{then-radius-east-via-then-radius-east, then-radius-east-via-else-radius-east+then-radius-north}

-- one way alone is too long
too_far : (way other radius : ℕ) → radius < way → nat_le (square way + other) (square radius) ≡ false
too_far way other radius h = grind (arith, mul-le)

pub returns-then-radius-east : goal.returns-then-radius-east
returns-then-radius-east c =
    let e = c.args.east in
    let n = c.args.north in
    let r = c.args.radius in
    let swap = add_comm (square e) (square n) in
    elim c.then-radius-east.branch [
      | then-radius-east-via-then-radius-east w ↦ sym (too_far e (square n) r w.if-radius-east.true)
      | then-radius-east-via-else-radius-east+then-radius-north w ↦ sym (rw swap (too_far n (square e) r w.if-radius-north.true))
    ]
