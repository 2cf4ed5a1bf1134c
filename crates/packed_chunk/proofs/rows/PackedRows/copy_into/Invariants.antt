use Rattle.std.proofs.Common.{◌≡◌, take, drop}
use Rattle.arrayvec.specs.ArrayVec.{array_vec_len}
use Rattle.packed_chunk.proofs.rows.PackedRows.copy_into.Given as goal

abbrev pub invariant-loop-k : goal.invariant-loop-k
invariant-loop-k l = record {
  items : l.into.items ≡ take l.k (drop l.from l.self.points);
  many : array_vec_len l.into ≡ l.k;
}
