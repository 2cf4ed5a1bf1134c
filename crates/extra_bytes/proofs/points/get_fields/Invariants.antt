use Rattle.extra_bytes.proofs.Getting.{Got}
use Rattle.extra_bytes.proofs.points.get_fields.Given as goal

abbrev pub invariant-loop-field : goal.invariant-loop-field
invariant-loop-field l = Got l.fields l.bytes l.field-index l.initial.point l.point
