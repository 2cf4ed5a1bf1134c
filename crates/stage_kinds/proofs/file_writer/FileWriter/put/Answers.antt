use Rattle.std.proofs.Common.{◌≡◌, Some, ap, sym, subst, ◌∙◌}
use Rattle.las_writer.specs.Holding.{IsRefused}
use Rattle.las_writer.specs.Records.{refusal}
use Rattle.stage_kinds.proofs.Putting.{none_in_text, none_refused, one_refused}
use Rattle.stage_kinds.proofs.file_writer.FileWriter.put.Goals as goal

pub returns-in-Ok-clause-ok : goal.returns-in-Ok-clause-ok
returns-in-Ok-clause-ok g c = rw c.in-Text.is (none_in_text c.in-Text.writer.form c.in-Text.count c.args.points.now)

pub returns-in-Err-clause-err : goal.returns-in-Err-clause-err
returns-in-Err-clause-err g c = rw c.in-Text.is (none_in_text c.in-Text.writer.form c.in-Text.count c.args.points.now)

pub returns-in-Ok-put_all-clause-ok : goal.returns-in-Ok-put_all-clause-ok
returns-in-Ok-put_all-clause-ok g c = rw c.in-Las.is (none_refused c.in-Las.writer.form c.in-Las.writer.totals.count c.args.points.now c.in-Ok-put_all.ensures.held)

pub returns-in-Err-Refused-clause-err : goal.returns-in-Err-Refused-clause-err
returns-in-Err-Refused-clause-err g c =
    let form = c.in-Las.writer.form in
    let count = c.in-Las.writer.totals.count in
    let refused = c.in-Err-Refused.refused in
    let is : refusal form count c.args.points.now ≡ Some (refused.at, refused.why) =
    subst (IsRefused form count c.args.points.now) c.in-Err-Refused.field-0-is c.in-Err-Refused.ensures.refused in
    rw c.in-Las.is (one_refused form count c.args.points.now refused.at refused.why is ∙ ap (λ w. Some (refused.at, w)) (sym c.reason_of.ensures))

pub returns-in-Err-Failed-clause-err : goal.returns-in-Err-Failed-clause-err
returns-in-Err-Failed-clause-err g c =
    let form = c.in-Las.writer.form in
    let count = c.in-Las.writer.totals.count in
    rw c.in-Las.is (none_refused form count c.args.points.now (subst (IsRefused form count c.args.points.now) c.in-Err-Failed.field-0-is c.in-Err-Failed.ensures.refused))
