use Rattle.std.proofs.Common.{refl}
use Rattle.cloud_points.specs.Layouts.{holds}
use Rattle.point_formats.proofs.Among.{adding_more}
use Rattle.point_formats.proofs.layouts.add_all.Goals as goal

pub loop-dim-preserved : goal.loop-dim-preserved
loop-dim-preserved c = adding_more c.args.dims.now c.loop-dim.dim-index _ (holds c.args.layout.now) (holds c.loop-dim.layout) (holds c.add.new.self) c.loop-dim-test.true refl c.add.ensures c.loop-dim.invariant
