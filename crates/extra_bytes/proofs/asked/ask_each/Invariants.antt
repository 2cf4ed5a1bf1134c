use Rattle.cloud_points.specs.Layouts.{holds}
use Rattle.extra_bytes.proofs.Asking.{Asking}
use Rattle.extra_bytes.proofs.asked.ask_each.Given as goal

abbrev pub invariant-loop-field : goal.invariant-loop-field
invariant-loop-field l = Asking l.i (holds l.layout) l.names l.from l.asked l.field-index l.at l.fields.items
