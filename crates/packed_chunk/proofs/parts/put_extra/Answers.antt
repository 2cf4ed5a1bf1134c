use Rattle.std.proofs.Common.{◌≡◌, false, [], ◌++◌, take, ap, sym, ◌∙◌, arith, append-nil}
use Rattle.packed_chunk.specs.Rows.{cells, size_of, extra_dims}
use Rattle.packed_chunk.proofs.Groups.{group_cells, group_size}
use Rattle.packed_chunk.proofs.parts.put_extra.Goals as goal

pub returns-else-any-clause-written : goal.returns-else-any-clause-written
returns-else-any-clause-written c =
    let before = take c.args.at.now c.args.out.now in
    let none : cells c.args.layout.now c.args.p.now extra_dims ≡ [] = group_cells false c.args.layout.now c.args.p.now extra_dims (c.requires.none c.if-any.false) in
    sym (append-nil before) ∙ ap (λ l. before ++ l) (sym none)

pub returns-else-any-clause-at : goal.returns-else-any-clause-at
returns-else-any-clause-at c =
    let none : size_of c.args.layout.now extra_dims ≡ 0 = group_size false c.args.layout.now extra_dims (c.requires.none c.if-any.false) in
    omega (arith, none)
