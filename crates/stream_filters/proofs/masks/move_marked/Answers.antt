use Rattle.std.proofs.Common.{◌<◌, length, arith}
use Rattle.cloud_points.specs.Points.{zero_point}
use Rattle.stream_filters.proofs.Marking.{marked_more}
use Rattle.stream_filters.specs.Masks.{marked}
use Rattle.stream_filters.proofs.masks.move_marked.Goals as goal

pub loop-at-preserved : goal.loop-at-preserved
loop-at-preserved c =
    let inside : c.loop-at.at < length c.loop-at.points = omega arith in
    record {
      marked = marked_more c.loop-at.points c.move_down-kept.new.points (marked c.args.mask c.args.points.now) c.loop-at.at c.loop-at.kept c.move_down-kept.result c.loop-at.rest zero_point inside
          c.loop-at.invariant.marked c.move_down-kept.ensures.kept c.move_down-kept.ensures.rest;
      few = omega arith;
      size = omega arith;
      end = omega arith;
    }
