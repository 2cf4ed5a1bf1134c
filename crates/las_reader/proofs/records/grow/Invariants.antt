use Rattle.std.proofs.Common.{◌≡◌, ◌-◌, ◌≤◌, take}
use Rattle.arrayvec.specs.ArrayVec.{array_vec_len}
use Rattle.las_reader.proofs.records.grow.Given as goal

abbrev pub invariant-loop-into : goal.invariant-loop-into
invariant-loop-into l = (take (array_vec_len l.initial.into) l.into.items ≡ l.initial.into.items) × (array_vec_len l.initial.into ≤ array_vec_len l.into)

abbrev pub decreases-loop-into : goal.decreases-loop-into
decreases-loop-into l = l.size - array_vec_len l.into
