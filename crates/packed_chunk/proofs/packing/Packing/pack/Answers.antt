use Rattle.std.proofs.Common.{[], ap, ◌∙◌, refl}
use Rattle.packed_chunk.specs.Unpacked.{unpacked_at}
use Rattle.packed_chunk.proofs.Returning.{row_back}
use Rattle.packed_chunk.proofs.packing.Packing.pack.Goals as goal

pub returns-clause-returns : goal.returns-clause-returns
returns-clause-returns c =
    ap (unpacked_at c.args.self.now.layout 0) c.pack_at.ensures
    ∙ row_back c.args.self.now.layout c.args.p.now c.known_numbers.ensures 0 [] _ refl ∙ c.requires.within
