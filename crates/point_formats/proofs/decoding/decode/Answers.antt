use Rattle.std.proofs.Common.{ap, ◌∙◌}
use Rattle.point_formats.specs.Encoded.{encoded}
use Rattle.byte_numbers.proofs.Pieces.{AreBytes}
use Rattle.point_formats.proofs.WrittenBack.{written_back}
use Rattle.point_formats.proofs.decoding.decode.Goals as goal

pub returns-clause-written_back : goal.returns-clause-written_back
returns-clause-written_back c =
    let bytes = c.args.bytes.now in
    let small : AreBytes bytes = λ i. (c.type_inv.bytes i).fits in
    ap (encoded c.args.format c.args.grid.now) c.point_of.ensures
    ∙ written_back c.args.format c.args.grid.now bytes c.known_steps.ensures small c.requires.size
