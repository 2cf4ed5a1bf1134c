use Rattle.stage_kinds.proofs.Putting.{refused_none}
use Rattle.stage_kinds.proofs.file_writer.FileWriter.finish.Goals as goal

pub returns-in-Ok-finish-clause-file : goal.returns-in-Ok-finish-clause-file
returns-in-Ok-finish-clause-file g c = λ points holds none x told.
    let held = rw c.in-Las.is at holds in
    let placed = rw c.in-Las.is at none in
    rw c.in-Las.is (c.in-Ok-finish.ensures.ok points held (refused_none c.in-Las.writer.form 0 points placed) x told)
