use Rattle.std.proofs.lemmas.Result.{on_ok_weaker}
use Rattle.text_writer.proofs.Held.{holds_more}
use Rattle.text_writer.proofs.writer.TextWriter.put.Goals as goal

pub returns-clause-holds : goal.returns-clause-holds
returns-clause-holds g c = on_ok_weaker c.put_points.result (λ appends before h. holds_more _ _ c.args.self.now.form before c.args.points.now appends h) c.put_points.ensures.ok
