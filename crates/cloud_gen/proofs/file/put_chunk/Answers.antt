use Rattle.std.proofs.Common.{◌∙◌}
use Rattle.std.proofs.lemmas.Result.{on_ok_weaker}
use Rattle.cloud_gen.proofs.Chunks.{all_placed, chunk_holds}
use Rattle.cloud_gen.proofs.file.put_chunk.Goals as goal

pub append_points-requires-clause-placed : goal.append_points-requires-clause-placed
append_points-requires-clause-placed g c =
    all_placed c.args.writer.now.form c.args.start c.args.end c.as_slice.result.now c.requires.form (c.as_slice.ensures.value ∙ c.generated_chunk-points.ensures) c.requires.ordered
    c.args.writer.now.totals.count c.requires.few

pub returns-clause-holds : goal.returns-clause-holds
returns-clause-holds g c =
    on_ok_weaker c.append_points.result
    (chunk_holds c.args.writer.now.form c.args.start c.args.end c.as_slice.result.now c.requires.form (c.as_slice.ensures.value ∙ c.generated_chunk-points.ensures) c.requires.ordered _ _ _ _)
    c.append_points.ensures.holds
