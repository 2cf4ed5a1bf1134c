use Rattle.std.proofs.Common.{◌≡◌, ◌≤ℤ◌, ◌<ℤ◌, pos, to_z, of_z, FitsSigned, w64, refl, subst, sym, ◌∙◌, rules, arith}
use Rattle.std.proofs.lemmas.Int.{ints, to_z-of_z}
use Rattle.std.proofs.lemmas.Option.{same_Some}
use Rattle.las_header.proofs.ScaleLemmas.{scale_of_its_nano}
use Rattle.extra_bytes.specs.Asked.{places_scale}
use Rattle.extra_bytes.proofs.asked.places_scale.Goals as goal

pub unreachable-requires : goal.unreachable-requires
unreachable-requires c =
    let fits : FitsSigned w64 c.step_of.result = search rules in
    let step : to_z w64 (of_z w64 c.step_of.result) ≡ (places_scale c.args.places).nano = to_z-of_z w64 c.step_of.result fits ∙ c.step_of.ensures in
    let low : pos 1 ≤ℤ (places_scale c.args.places).nano = (places_scale c.args.places).low in
    let high : (places_scale c.args.places).nano ≤ℤ pos 1_000_000_000 = (places_scale c.args.places).high in
    let past : pos 1_000_000_000 <ℤ (places_scale c.args.places).nano = subst (λ n. pos 1_000_000_000 <ℤ n) step (c.in-None.ensures.none (subst (λ n. pos 1 ≤ℤ n) (sym step) low)) in
    omega (arith, ints, high, past)

pub returns : goal.returns
returns c =
    let fits : FitsSigned w64 c.step_of.result = search rules in
    let scale = places_scale c.args.places in
    let step : c.in-Some.scale.nano ≡ scale.nano = c.in-Some.ensures.some.0 ∙ to_z-of_z w64 c.step_of.result fits ∙ c.step_of.ensures in
    same_Some c.in-Some.scale scale (sym (scale_of_its_nano c.in-Some.scale scale.nano step) ∙ scale_of_its_nano scale scale.nano refl)
