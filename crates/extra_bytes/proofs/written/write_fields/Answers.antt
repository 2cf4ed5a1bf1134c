use Rattle.std.proofs.Common.{arith, ◌<◌, ◌++◌, length, ap, ◌∙◌}
use Rattle.extra_bytes.proofs.Putting.{one_written}
use Rattle.extra_bytes.proofs.written.write_fields.Goals as goal

pub loop-field-preserved : goal.loop-field-preserved
loop-field-preserved c =
    let fields = c.args.fields.now in
    let items = c.loop-field.payload.items in
    let more : c.loop-field.field-index < length fields = omega arith in
    one_written fields c.loop-field.field-index c.field-item.result items c.extend_from_slice.new.self.items more c.field-item.is
    (c.in_ok-extend_from_slice.ensures.items ∙ ap (λ l. items ++ l) (c.as_slice.ensures.value ∙ c.descriptor_of.ensures)) c.loop-field.invariant
