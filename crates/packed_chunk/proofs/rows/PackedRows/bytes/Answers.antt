use Rattle.std.proofs.Common.{ap, arith, length, ◌+◌, ◌^◌, ◌≤◌}
use Rattle.std.proofs.Math.Nat.{mul-le-mul}
use Rattle.packed_chunk.specs.Held.{Held, point_at}
use Rattle.packed_chunk.proofs.Listed.{listed_length}
use Rattle.packed_chunk.proofs.rows.PackedRows.bytes.Goals as goal

pub overflow_mul-result : goal.overflow_mul-result
overflow_mul-result c =
    let i = c.self.inside in
    let many = listed_length (λ n. point_at i.packing.layout i.gone i.pieces.items (i.first + n)) i.len in
    let few : c.len.result ≤ 2 ^ 56 = omega (arith, c.len.ensures, ap (λ (h : Held). length h.points) c.self.view_is, many, c.self.invariant.most) in
    omega (arith, mul-le-mul few c.width.ensures.small)
