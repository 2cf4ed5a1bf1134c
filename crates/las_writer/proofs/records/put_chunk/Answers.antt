use Rattle.std.proofs.Common.{◌≡◌, Err, rules}
use Rattle.las_writer.proofs.Refusals.{first_refused, next_refused}
use Rattle.las_writer.proofs.records.put_chunk.Goals as goal

pub returns-in_err-size-clause-refused : goal.returns-in_err-size-clause-refused
returns-in_err-size-clause-refused c =
    let e = c.in_err-size.field-0.0 in
    let refused : c.from_residual.result ≡ Err e = search rules in
    rw refused (first_refused c.args.form.now c.args.totals.now.count c.how_many_fit-fitting.result c.args.points.now (e.at, e.why) c.in_err-size.ensures.refused)

pub returns-then-fitting-points-clause-refused : goal.returns-then-fitting-points-clause-refused
returns-then-fitting-points-clause-refused c =
    next_refused c.args.form.now c.args.totals.now.count c.how_many_fit-fitting.result c.args.points.now c.if-fitting-points.true
    (c.how_many_fit-fitting.ensures.next c.if-fitting-points.true) c.in_ok-size.ensures.held
