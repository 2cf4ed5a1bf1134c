use Rattle.std.proofs.Common.{take}
use Rattle.std.proofs.lemmas.Result.{IfOk-weaker}
use Rattle.point_formats.proofs.ReadBack.{read_back}
use Rattle.point_formats.proofs.encoding.encode_ready.Goals as goal

pub returns-clause-read_back : goal.returns-clause-read_back
returns-clause-read_back c =
    IfOk-weaker c.put_record.result _ _
    (λ n written. read_back c.args.format c.args.grid.now c.args.p.now (take n c.put_record.new.out) c.known_steps.ensures c.known_numbers.ensures written)
    c.put_record.ensures.ok
