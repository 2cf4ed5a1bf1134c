use Rattle.std.proofs.Common.{◌≡◌, ◌+◌, ◌≤◌, ap, sym, subst, ◌∙◌, drop, length, take, Some, None, Ok, arith, rules, w64}
use Rattle.std.proofs.lemmas.Int.{to_z-of_z}
use Rattle.extra_bytes.specs.Values.{extra_written}
use Rattle.extra_bytes.proofs.Laying.{field_put, field_refused}
use Rattle.extra_bytes.proofs.points.put_field.Goals as goal

pub returns-in-Ok-clause-ok : goal.returns-in-Ok-clause-ok
returns-in-Ok-clause-ok c =
    let at = c.args.at in
    let new = c.put_extra.new.bytes in
    let room : at ≤ length c.args.bytes.now = omega (arith, c.requires.room) in
    let put = subst (λ v. extra_written c.args.field.now v c.args.bytes.now ≡ Some new) (to_z-of_z w64 c.extra_value.result (search rules) ∙ c.extra_value.ensures) c.in-Ok.ensures.ok in
    (field_put c.args.field.now c.args.point.now at c.args.bytes.now new c.requires.stands room put).bytes
    ∙ ap (λ n. Ok (drop at (take (at + n) new))) (sym c.size.ensures.size)

pub returns-in-Ok-clause-before : goal.returns-in-Ok-clause-before
returns-in-Ok-clause-before c =
    let room : c.args.at ≤ length c.args.bytes.now = omega (arith, c.requires.room) in
    let put = subst (λ v. extra_written c.args.field.now v c.args.bytes.now ≡ Some c.put_extra.new.bytes) (to_z-of_z w64 c.extra_value.result (search rules) ∙ c.extra_value.ensures) c.in-Ok.ensures.ok in
    (field_put c.args.field.now c.args.point.now c.args.at c.args.bytes.now c.put_extra.new.bytes c.requires.stands room put).before

pub returns-in-Err-clause-refused : goal.returns-in-Err-clause-refused
returns-in-Err-clause-refused c =
    field_refused c.args.field.now c.args.point.now c.args.bytes.now
    (subst (λ v. extra_written c.args.field.now v c.args.bytes.now ≡ None) (to_z-of_z w64 c.extra_value.result (search rules) ∙ c.extra_value.ensures) c.in-Err.ensures.refused)
