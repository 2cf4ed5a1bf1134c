use Rattle.std.proofs.Common.{◌≡◌, ◌<◌, ◌≤◌, length, ap, ◌∙◌, arith}
use Rattle.extra_bytes.proofs.Moving.{move_all, move_near, move_next, put_back}
use Rattle.extra_bytes.proofs.asked.move_fields.Goals as goal

pub loop-field-init : goal.loop-field-init
loop-field-init c = c.deref_mut-field-items.ensures.value ∙ c.into_vec-moved.ensures

pub overflow_add-field : goal.overflow_add-field
overflow_add-field c =
    let size = ap length (c.deref_mut-field-items.ensures.value ∙ c.into_vec-moved.ensures) in
    let within : c.loop-field.field-index < length c.args.fields = omega (arith, size, c.loop-field-test.true) in
    let near = move_near c.args.by c.loop-field.field-index c.args.fields c.loop-field.field-items c.field-item.result c.loop-field.invariant within c.requires.near in
    omega (arith, near, c.requires.by)

pub loop-field-preserved : goal.loop-field-preserved
loop-field-preserved c =
    let size = ap length (c.deref_mut-field-items.ensures.value ∙ c.into_vec-moved.ensures) in
    let within : c.loop-field.field-index < length c.args.fields = omega (arith, size, c.loop-field-test.true) in
    move_next c.args.by c.loop-field.field-index c.args.fields c.loop-field.field-items c.field-item.result c.loop-field.invariant within

pub returns : goal.returns
returns c =
    let items = c.into_vec-moved.result.items in
    let size = ap length (c.deref_mut-field-items.ensures.value ∙ c.into_vec-moved.ensures) in
    let count : c.into_vec-moved.result.len ≡ length items = omega (arith, c.into_vec-moved.result.ok) in
    let same : length c.loop-field.field-items ≡ length items = omega (arith, c.loop-field.auto.field-items, ap length c.deref_mut-field-items.ensures.value) in
    let over : length c.args.fields ≤ c.loop-field.field-index = omega (arith, size, c.loop-field-test.false) in
    c.new.ensures ∙ put_back c.into_vec-moved.result.len c.loop-field.field-items items count same ∙ move_all c.args.by c.loop-field.field-index c.args.fields c.loop-field.field-items c.loop-field.invariant over
