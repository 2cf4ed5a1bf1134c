use Rattle.std.proofs.Common.{◌≡◌, false, ◌∷◌, [], ap, sym, ◌∙◌, arith}
use Rattle.packed_chunk.specs.Rows.{size_of, extra_dims}
use Rattle.packed_chunk.specs.Unpacked.{numbers, with_extras}
use Rattle.packed_chunk.proofs.Groups.{group_size}
use Rattle.packed_chunk.proofs.Within.{none_numbers}
use Rattle.packed_chunk.proofs.taking.take_extra.Goals as goal

pub returns-else-any-clause-at : goal.returns-else-any-clause-at
returns-else-any-clause-at c =
    let none : size_of c.args.layout.now extra_dims ≡ 0 = group_size false c.args.layout.now extra_dims (c.requires.none c.if-any.false) in
    omega (arith, none)

pub returns-else-any-clause-p : goal.returns-else-any-clause-p
unfolding with_extras
returns-else-any-clause-p c =
    let layout = c.args.layout.now in
    let p = c.args.p.now in
    let zeros : numbers layout extra_dims c.args.at.now c.args.row.now ≡ 0 ∷ 0 ∷ 0 ∷ 0 ∷ 0 ∷ 0 ∷ 0 ∷ 0 ∷ [] =
    none_numbers layout extra_dims c.args.at.now c.args.row.now (c.requires.none c.if-any.false) in
    (λ i. record p { extra = c.requires.zero i }) ∙ ap (λ ns. with_extras ns p) (sym zeros)
