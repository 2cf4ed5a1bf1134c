use Rattle.std.proofs.Common.{[], ap, ◌∙◌, refl}
use Rattle.packed_chunk.specs.Unpacked.{unpacked_at}
use Rattle.packed_chunk.proofs.Returning.{row_back}
use Rattle.packed_chunk.proofs.Within.{unpacked_within}
use Rattle.packed_chunk.proofs.packing.Packing.unpack.Goals as goal

pub returns-clause-returns : goal.returns-clause-returns
returns-clause-returns c = λ p rest fits within is.
    c.unpack_at.ensures ∙ ap (unpacked_at c.args.self.now.layout 0) is ∙ row_back c.args.self.now.layout p fits 0 [] rest refl ∙ within

pub returns-clause-within : goal.returns-clause-within
returns-clause-within c = rw c.unpack_at.ensures (unpacked_within c.args.self.now.layout 0 c.args.bytes.now)
