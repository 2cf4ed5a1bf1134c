use Rattle.extra_bytes.proofs.Places.{Going}
use Rattle.extra_bytes.proofs.binding.bind_each.Given as goal

abbrev pub invariant-loop-field : goal.invariant-loop-field
invariant-loop-field l = Going l.i l.fn.names l.found l.field-index l.names l.fields.items
