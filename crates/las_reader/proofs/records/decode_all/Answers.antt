use Rattle.std.proofs.Common.{◌≡◌, ◌+◌, ◌<◌, take, length, length-set, set, arith, ap, ◌∙◌}
use Rattle.std.proofs.lemmas.List.{take_more_set}
use Rattle.las_reader.proofs.Pieces.{decoded_none, one_more}
use Rattle.las_reader.proofs.records.decode_all.Goals as goal

pub loop-k-init : goal.loop-k-init
loop-k-init c = decoded_none c.args.header.now c.args.records.now c.args.at c.args.points.now (length c.args.points.now) (omega (arith, c.requires.room))

pub loop-k-preserved : goal.loop-k-preserved
loop-k-preserved c =
    let after = set c.loop-k.points (c.args.at + c.loop-k.k) c.point_of.result in
    let next : c.args.at + (c.loop-k.k + 1) ≡ c.args.at + c.loop-k.k + 1 = omega arith in
    let inside : c.args.at + c.loop-k.k < length c.loop-k.points = omega (arith, c.requires.room, c.loop-k-test.true, c.loop-k.auto.points) in
    let same : length after ≡ length c.loop-k.points = length-set c.loop-k.points (c.args.at + c.loop-k.k) c.point_of.result in
    record {
      points_are = ap (λ n. take n after) next ∙ take_more_set c.loop-k.points (c.args.at + c.loop-k.k) c.point_of.result inside
          ∙ one_more c.args.header.now c.loop-k.k c.args.records.now (take c.args.at c.args.points.now) (take (c.args.at + c.loop-k.k) c.loop-k.points) c.point_of.result c.loop-k.invariant.points_are c.point_of.ensures;
      there = omega (arith, same, inside);
    }
