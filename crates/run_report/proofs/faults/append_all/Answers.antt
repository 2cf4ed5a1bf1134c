use Rattle.std.proofs.Common.{◌++◌}
use Rattle.std.proofs.lemmas.Result.{err_from_is_err_and}
use Rattle.run_report.proofs.Lines.{part_of_first, part_of_second, OnErr-more}
use Rattle.run_report.proofs.faults.append_all.Goals as goal

pub returns-in_err-append-clause-part : goal.returns-in_err-append-clause-part
returns-in_err-append-clause-part g c =
    let p = err_from_is_err_and c.from_residual.result c.from_residual.ensures.1 in
    rw p.1 (part_of_first c.args.before.now (c.args.name.now ++ c.args.after.now) _ _ c.in_err-append.ensures.part)

pub returns-in_err-append-2-clause-part : goal.returns-in_err-append-2-clause-part
returns-in_err-append-2-clause-part g c =
    let p = err_from_is_err_and c.from_residual-in_err-append-2.result c.from_residual-in_err-append-2.ensures.1 in
    rw p.1 (part_of_second c.args.before.now (c.args.name.now ++ c.args.after.now) _ _ _ c.in_ok-append.ensures.ok (part_of_first c.args.name.now c.args.after.now _ _ c.in_err-append-2.ensures.part))

pub returns-clause-part : goal.returns-clause-part
returns-clause-part g c =
    OnErr-more c.append-3.result _ _ (λ part.
    part_of_second c.args.before.now (c.args.name.now ++ c.args.after.now) _ _ _ c.in_ok-append.ensures.ok
    (part_of_second c.args.name.now c.args.after.now _ _ _ c.in_ok-append-2.ensures.ok part)) c.append-3.ensures.part
