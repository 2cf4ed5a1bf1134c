use Rattle.std.proofs.Common.{◌≡◌, ◌||◌, drop}
use Rattle.cloud_points.specs.Layouts.{holds}
use Rattle.cloud_points.specs.declared.dims.Dim.{Dim}
use Rattle.name_binding.specs.Ferries.{is_target_of}
use Rattle.name_binding.proofs.ferries.with_targets.Given as goal

abbrev pub invariant-loop-assignment : goal.invariant-loop-assignment
invariant-loop-assignment l =
    (dim : Dim) → (holds l.more dim || is_target_of (drop l.assignment-index l.list) dim) ≡ (holds l.layout dim || is_target_of l.list dim)
