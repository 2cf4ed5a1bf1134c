use Rattle.std.proofs.Common.{w64, FitsSigned, ap, ◌∙◌, arith}
use Rattle.std.proofs.lemmas.Int.{ints, to_z-of_z}
use Rattle.las_header.specs.ScaleWords.{scale_of_nano}
use Rattle.stage_typing.proofs.Scales.{scale_is}
use Rattle.stage_typing.proofs.members.scale_of_nano.Goals as goal

pub returns : goal.returns
returns c =
    let size = c.ranges.nano.sfits in
    let fits : FitsSigned w64 c.args.nano = omega (arith, ints, size) in
    scale_is _ c.new.result c.new.ensures.some c.new.ensures.none ∙ ap scale_of_nano (to_z-of_z w64 c.args.nano fits)
