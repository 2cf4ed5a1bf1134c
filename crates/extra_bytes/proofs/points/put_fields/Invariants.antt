use Rattle.extra_bytes.proofs.Laying.{Laid}
use Rattle.extra_bytes.proofs.points.put_fields.Given as goal

abbrev pub invariant-loop-field : goal.invariant-loop-field
invariant-loop-field l = Laid l.fields l.point l.at l.field-index l.end l.initial.bytes l.bytes
