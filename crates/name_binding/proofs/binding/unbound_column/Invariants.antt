use Rattle.std.proofs.Common.{◌≡◌, drop}
use Rattle.cloud_points.specs.Layouts.{holds}
use Rattle.name_binding.specs.Binding.{first_unbound}
use Rattle.name_binding.proofs.binding.unbound_column.Given as goal

abbrev pub invariant-loop-column : goal.invariant-loop-column
invariant-loop-column l = first_unbound l.names (holds l.layout) l.columns ≡ first_unbound l.names (holds l.layout) (drop l.column-index l.columns)
