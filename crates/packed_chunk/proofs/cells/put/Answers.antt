use Rattle.std.proofs.Common.{◌+◌, ◌-◌, arith}
use Rattle.std.proofs.lemmas.Slice.{drop-put_mid}
use Rattle.packed_chunk.proofs.cells.put.Goals as goal

pub returns-clause-rest : goal.returns-clause-rest
returns-clause-rest g c =
    let at = c.args.at.now in
    drop-put_mid at (at + g.row.N - at) c.args.out.now c.copy_from_slice.new.self (at + g.row.N) (omega arith) (omega (arith, c.requires)) (omega (arith, c.copy_from_slice.ensures.len))
