use Rattle.cloud_points.specs.Layouts.{holds}
use Rattle.point_formats.proofs.Among.{Adding}
use Rattle.point_formats.proofs.layouts.add_all.Given as goal

abbrev pub invariant-loop-dim : goal.invariant-loop-dim
invariant-loop-dim l = Adding l.dims l.dim-index (holds l.initial.layout) (holds l.layout)
