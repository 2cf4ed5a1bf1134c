use Rattle.std.proofs.Common.{sym, ◌∙◌, w64, FitsSigned, arith}
use Rattle.std.proofs.lemmas.Int.{ints, to_z-of_z}
use Rattle.std.proofs.lemmas.Grind.{common_steps}
use Rattle.las_header.proofs.ScaleLemmas.{scale_of_its_nano}
use Rattle.las_header.proofs.scales.scale_of_word.Goals as goal

pub returns-in-Some-new-clause-value : goal.returns-in-Some-new-clause-value
returns-in-Some-new-clause-value c =
    let low = c.in-Some.ensures.scale.low in
    let high = c.in-Some.ensures.scale.high in
    let fits : FitsSigned w64 c.in-Some.nano = omega (arith, ints, low, high) in
    let e = scale_of_its_nano c.in-Some-new.scale c.in-Some.nano (c.in-Some-new.ensures.some.0 ∙ to_z-of_z w64 c.in-Some.nano fits) in
    let found = c.in-Some.ensures.value in
    rw (sym found, e) grind (arith, common_steps)
