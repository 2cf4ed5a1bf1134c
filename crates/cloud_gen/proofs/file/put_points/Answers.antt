use Rattle.std.proofs.Common.{arith, refl}
use Rattle.cloud_gen.proofs.Chunks.{none_held}
use Rattle.cloud_gen.proofs.file.put_points.Goals as goal

pub loop-start-init : goal.loop-start-init
loop-start-init g c = record {
  within = omega arith;
  form = c.requires.form;
  holds = none_held (g.K.Sink.bytes c.args.writer.now.sink) c.args.writer.now.totals;
  calm = refl;
}
