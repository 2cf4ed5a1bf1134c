use Rattle.std.proofs.Common.{[]}
use Rattle.cloud_points.specs.Points.{zero_point}
use Rattle.las_reader.proofs.Adding.{added_none, added_more, out_there}
use Rattle.las_reader.proofs.records.add_fields.Goals as goal

pub loop-k-init : goal.loop-k-init
loop-k-init c = added_none c.args.header.now c.args.fields.now c.args.records.now c.args.at c.args.points.now

pub returns-in-Err-clause-out : goal.returns-in-Err-clause-out
returns-in-Err-clause-out c =
    (out_there c.args.header.now c.args.fields.now c.args.records.now c.args.points.now c.args.at c.loop-k.k c.args.count c.loop-k.points c.loop-k-test.true c.requires.room c.requires.decoded c.loop-k.invariant
    c.in-Err.dim c.get_fields.new.point c.in-Err.ensures.refused).out

pub loop-k-preserved : goal.loop-k-preserved
loop-k-preserved c =
    added_more c.args.header.now c.args.fields.now c.args.records.now c.args.points.now c.args.at c.loop-k.k c.args.count c.loop-k.points c.loop-k-test.true c.requires.room c.requires.decoded c.loop-k.invariant
    (record zero_point { extra = [] }) c.get_fields.new.point c.in_default.ensures.ok c.in_default.ensures.point
