use Rattle.cloud_points.specs.Layouts.{holds}
use Rattle.extra_bytes.proofs.Asking.{Gathering}
use Rattle.extra_bytes.proofs.asked.all_of.Given as goal

abbrev pub invariant-loop-place : goal.invariant-loop-place
invariant-loop-place l = Gathering (holds l.layout) l.names l.place l.asked.items
