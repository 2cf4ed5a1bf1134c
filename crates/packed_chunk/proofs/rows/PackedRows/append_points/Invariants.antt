use Rattle.std.proofs.Common.{◌≡◌, ◌++◌, take, length}
use Rattle.packed_chunk.proofs.rows.PackedRows.append_points.Given as goal

abbrev pub invariant-loop-k : goal.invariant-loop-k
invariant-loop-k l = record {
  points : l.self.points ≡ l.initial.self.points ++ take l.k l.later.points;
  ends : l.k-end ≡ length l.later.points;
}
