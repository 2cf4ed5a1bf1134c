use Rattle.std.proofs.Common.{◌≡◌, take, length}
use Rattle.packed_chunk.proofs.rows.PackedRows.laid_under.Given as goal

abbrev pub invariant-loop-k : goal.invariant-loop-k
invariant-loop-k l = (l.rows.layout ≡ l.layout) × (l.rows.points ≡ take l.k l.self.points) × (l.k-end ≡ length l.self.points)
