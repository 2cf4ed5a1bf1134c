use Rattle.std.proofs.Common.{◌≡◌}
use Rattle.extra_bytes.proofs.Moving.{moving}
use Rattle.extra_bytes.proofs.asked.move_fields.Given as goal

abbrev pub invariant-loop-field : goal.invariant-loop-field
invariant-loop-field l = l.field-items ≡ moving l.by l.field-index l.fn.fields
