use Rattle.std.proofs.Common.{◌≡◌, ◌+◌, ◌*◌, ◌/◌, pos, w64, to_z, sym, ap, ◌∙◌, arith}
use Rattle.std.proofs.Math.Nat.{div-eq_of_lt}
use Rattle.std.proofs.lemmas.Int.{to_z-of_z}
use Rattle.exact_numbers.specs.Rounding.{half_away}
use Rattle.point_formats.proofs.angles.steps.Goals as goal

pub returns-then-nano-eq0 : goal.returns-then-nano-eq0
returns-then-nano-eq0 c =
    let zero : c.args.nano ≡ pos 0 = sym (to_z-of_z w64 c.args.nano c.ranges.nano) ∙ ap (to_z w64) c.if-nano-eq0.true in
    let low : (2 * 0 + c.args.step) / (2 * c.args.step) ≡ 0 = div-eq_of_lt (let l = c.requires.low in omega (arith, l)) in
    ap pos (sym low) ∙ ap (λ n. half_away n c.args.step) (sym zero)
