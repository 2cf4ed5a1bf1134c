use Rattle.std.proofs.Common.{rules, ◌≡◌, ◌<◌, List, length, get_or, inr, subst}
use Rattle.extra_bytes.proofs.Places.{going_on, part_bound}
use Rattle.extra_bytes.proofs.binding.bind_each.Goals as goal

pub returns-in_err-bound-clause-part : goal.returns-in_err-bound-clause-part
returns-in_err-bound-clause-part c =
    part_bound c.from_residual.result c.args.names.now c.args.found.now c.loop-field.field-index c.field-item.result c.loop-field.names c.bind_field.new.names c.loop-field.invariant.so_far
    (subst (λ (xs : List _). c.loop-field.field-index < length xs) c.as_slice-field-items.ensures c.loop-field-test.true) (subst (λ xs. c.field-item.result ≡ get_or xs c.loop-field.field-index c.field-item.result) c.as_slice-field-items.ensures c.field-item.is) c.in_err-bound.ensures.part

pub returns-in_err-map_err-clause-part : goal.returns-in_err-map_err-clause-part
returns-in_err-map_err-clause-part c =
    part_bound c.from_residual-in_err-map_err.result c.args.names.now c.args.found.now c.loop-field.field-index c.field-item.result c.loop-field.names c.bind_field.new.names c.loop-field.invariant.so_far
    (subst (λ (xs : List _). c.loop-field.field-index < length xs) c.as_slice-field-items.ensures c.loop-field-test.true) (subst (λ xs. c.field-item.result ≡ get_or xs c.loop-field.field-index c.field-item.result) c.as_slice-field-items.ensures c.field-item.is) (inr c.in_ok-bound.ensures.names)

pub loop-field-preserved : goal.loop-field-preserved
loop-field-preserved c =
    let inside = subst (λ (xs : List _). c.loop-field.field-index < length xs) c.as_slice-field-items.ensures c.loop-field-test.true in
    let here = subst (λ xs. c.field-item.result ≡ get_or xs c.loop-field.field-index c.field-item.result) c.as_slice-field-items.ensures c.field-item.is in
    going_on c.loop-field.invariant c.field-item.result c.in_ok-bound.bound c.bind_field.new.names c.push.new.self.items inside here
    c.in_ok-bound.ensures.names c.in_ok-bound.ensures.ok c.in_ok-bound.ensures.none (search rules)
