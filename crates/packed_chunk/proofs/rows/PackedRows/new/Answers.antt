use Rattle.std.proofs.Common.{arith}
use Rattle.packed_chunk.proofs.Standing.{piece_first}
use Rattle.packed_chunk.proofs.rows.PackedRows.new.Goals as goal

pub invariant_of-result : goal.invariant_of-result
invariant_of-result c = record {
  sized = λ i inside. absurd (omega (arith, inside));
  begins = omega arith;
  held = λ place before. absurd (omega (arith, before));
  next = omega (arith, piece_first);
  most = omega arith;
}
