use Rattle.std.proofs.lemmas.Result.{on_ok_weaker}
use Rattle.cloud_gen.proofs.Chunks.{finished_file}
use Rattle.cloud_gen.proofs.file.write_points.Goals as goal

pub returns-clause-file : goal.returns-clause-file
returns-clause-file g c =
    on_ok_weaker c.finish_file.result
    (λ ends h. finished_file (g.K.Sink.bytes c.put_points.new.writer.sink) (g.K.Sink.bytes c.finish_file.new.writer.sink) c.put_points.new.writer.form c.put_points.new.writer.totals c.args.count
    c.put_points.ensures.form c.requires.few ends (c.in_ok-put_points.ensures.holds h))
    c.finish_file.ensures.file
