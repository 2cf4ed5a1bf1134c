use Rattle.extra_bytes.proofs.Laying.{Counted}
use Rattle.extra_bytes.proofs.points.fields_size.Given as goal

abbrev pub invariant-loop-field : goal.invariant-loop-field
invariant-loop-field l = Counted l.fields l.field-index l.size
