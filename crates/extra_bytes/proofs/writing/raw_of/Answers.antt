use Rattle.std.proofs.Common.{rules, arith, ◌≡◌, ◌+◌, ◌*◌, ◌/◌, ◌-ℤ◌, refl, ◌∙◌, FitsSigned}
use Rattle.std.specs.Prelude.{unsigned_abs}
use Rattle.std.specs.Int.{w128}
use Rattle.std.proofs.lemmas.Int.{ints, to_z-of_z}
use Rattle.exact_numbers.specs.Rounding.{signed_as}
use Rattle.extra_bytes.proofs.writing.raw_of.Goals as goal

pub returns : goal.returns
returns c =
    let f = c.args.f.now in
    let d = c.distance_of-distance.result in
    let s = c.size_of_distance-size.result in
    let u = c.unit_of-unit.result in
    let r = c.rounded-steps.result in
    let distance : d ≡ c.args.nano -ℤ f.offset = first_of (search rules, grind (arith, ints)) in
    let size : s ≡ unsigned_abs d = first_of (search rules, grind (arith, ints)) in
    let unit : u ≡ unsigned_abs f.scale.nano = first_of (search rules, grind (arith, ints)) in
    let steps : r ≡ (2 * s + u) / (2 * u) = first_of (search rules, grind (arith, ints)) in
    let is : c.signed.result ≡ signed_as d r = first_of (search rules, grind (arith, ints)) in
    let fits : FitsSigned w128 c.signed.result = search rules in
    to_z-of_z w128 c.signed.result fits ∙ is ∙ (rw (steps, size, unit, distance) refl)
