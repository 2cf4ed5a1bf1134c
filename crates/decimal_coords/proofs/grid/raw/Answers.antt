use Rattle.std.proofs.Common.{arith, rules, ◌≡◌, ◌*◌, ◌^◌, ◌≤◌, ◌<◌, sym, subst, ◌∙◌, ℤ, ◌-ℤ◌, w64, FitsSigned, to_z, of_z}
use Rattle.std.specs.Int.{w32}
use Rattle.std.specs.Prelude.{unsigned_abs}
use Rattle.std.proofs.lemmas.Int.{ints, to_z-of_z, fits_signed_from_abs}
use Rattle.exact_numbers.specs.Rounding.{half_away}
use Rattle.decimal_coords.specs.Grid.{nearest_step}
use Rattle.decimal_coords.proofs.grid.raw.Goals as goal

-- what the code divides is the distance and the scale themselves
passed : (nano off scale own r : ℤ) → FitsSigned w64 nano → FitsSigned w64 off → FitsSigned w64 scale → FitsSigned w64 r → unsigned_abs nano ≤ 4 * 10 ^ 18 → unsigned_abs off ≤ 10 ^ 18 → scale ≡ own →
    r ≡ half_away (to_z w64 (of_z w64 (to_z w64 (of_z w64 nano) -ℤ to_z w64 (of_z w64 off)))) (unsigned_abs (to_z w64 (of_z w64 scale))) →
    to_z w64 (of_z w64 r) ≡ nearest_step nano own off
passed nano off scale own r fn fo fs fr bn bo e h =
    let d : unsigned_abs (nano -ℤ off) < 2 ^ 63 = omega (arith, ints) in
    let a = to_z-of_z w64 nano fn in
    let b = to_z-of_z w64 off fo in
    let c = to_z-of_z w64 (nano -ℤ off) (fits_signed_from_abs w64 (nano -ℤ off) d) in
    let g = to_z-of_z w64 scale fs in
    to_z-of_z w64 r fr ∙ (rw (a, b, c, g, e) at h)

pub returns-in-Ok : goal.returns-in-Ok
returns-in-Ok c =
    let f : FitsSigned w32 c.in-Ok.raw = search rules in
    let s : FitsSigned w64 c.nano.result = search rules in
    let t : FitsSigned w64 c.steps.result = search rules in
    let h = passed c.args.nano c.args.off c.nano.result c.args.scale.nano c.steps.result c.ranges.nano c.ranges.off s t c.requires.nano c.requires.off c.nano.ensures.value c.steps.ensures.value in
    let e : c.in-Ok.raw ≡ nearest_step c.args.nano c.args.scale.nano c.args.off = c.in-Ok.ensures.1 ∙ h in
    (subst (FitsSigned w32) e f, to_z-of_z w32 c.in-Ok.raw f ∙ e)

pub returns-in-Err : goal.returns-in-Err
returns-in-Err c f =
    let s : FitsSigned w64 c.nano.result = search rules in
    let t : FitsSigned w64 c.steps.result = search rules in
    let h = passed c.args.nano c.args.off c.nano.result c.args.scale.nano c.steps.result c.ranges.nano c.ranges.off s t c.requires.nano c.requires.off c.nano.ensures.value c.steps.ensures.value in
    c.in-Err.ensures (subst (FitsSigned w32) (sym h) f)
