use Rattle.std.proofs.Common.{◌≡◌, ◌++◌, take, length}
use Rattle.packed_chunk.proofs.rows.PackedRows.append_rows.Given as goal

abbrev pub invariant-loop-k : goal.invariant-loop-k
invariant-loop-k l = record {
  same : l.later.layout ≡ l.self.layout;
  points : l.self.points ≡ l.initial.self.points ++ take l.k l.later.points;
  ends : l.k-end ≡ length l.later.points;
}
