use Rattle.std.proofs.Common.{◌≡◌, ◌++◌, take}
use Rattle.packed_chunk.proofs.rows.PackedRows.push_each.Given as goal

abbrev pub invariant-loop-p : goal.invariant-loop-p
invariant-loop-p l = l.self.points ≡ l.initial.self.points ++ take l.p-index l.points
