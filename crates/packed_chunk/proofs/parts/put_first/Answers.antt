use Rattle.std.proofs.Common.{◌≡◌, ◌+◌, true, ◌++◌, take, ap, sym, ◌∙◌, arith}
use Rattle.packed_chunk.specs.Rows.{size_of, first_dims}
use Rattle.packed_chunk.proofs.Groups.{group_cells, group_size}
use Rattle.packed_chunk.proofs.parts.put_first.Goals as goal

pub put-requires : goal.put-requires
put-requires c =
    let size : size_of c.args.layout.now first_dims ≡ 34 = group_size true c.args.layout.now first_dims (c.requires.usual c.if-usual.true).first in
    omega (arith, c.requires.room, size)

pub returns-then-usual-clause-written : goal.returns-then-usual-clause-written
returns-then-usual-clause-written c =
    let cells_are = group_cells true c.args.layout.now c.args.p.now first_dims (c.requires.usual c.if-usual.true).first in
    c.put.ensures.written ∙ ap (λ l. take c.args.at.now c.args.out.now ++ l) (c.first_bytes.ensures ∙ sym cells_are)

pub returns-then-usual-clause-at : goal.returns-then-usual-clause-at
returns-then-usual-clause-at c =
    let size : size_of c.args.layout.now first_dims ≡ 34 = group_size true c.args.layout.now first_dims (c.requires.usual c.if-usual.true).first in
    c.put.ensures.at ∙ ap (λ n. c.args.at.now + n) (sym size)
