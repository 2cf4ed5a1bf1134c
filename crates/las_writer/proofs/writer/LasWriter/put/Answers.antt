use Rattle.std.proofs.Common.{sym, subst}
use Rattle.las_writer.specs.Holding.{IsPutFault}
use Rattle.las_writer.specs.Records.{fits, unplaced, written}
use Rattle.las_writer.proofs.Refusals.{put_refused}
use Rattle.las_writer.proofs.writer.LasWriter.put.Goals as goal

pub returns-in-Err-clause-refused : goal.returns-in-Err-clause-refused
returns-in-Err-clause-refused g c =
    let now = c.args.self.now in
    subst (IsPutFault (unplaced (fits now.form now.totals.count) (written now.form c.args.point.now))) (sym c.put_fault.ensures)
    (put_refused now.form now.totals.count c.args.point.now c.in-Err.e c.in-Err.ensures.refused)
