use Rattle.std.proofs.Common.{◌∷◌, option_map, subst, sym}
use Rattle.file_devices.specs.Counts.{Rose}
use Rattle.file_devices.specs.Told.{IsAsTold}
use Rattle.run_opening.specs.Opening.{ToldUnopened}
use Rattle.run_opening.proofs.Named.{unopened-told}
use Rattle.run_opening.proofs.open.open_reader.Goals as goal

pub returns-in-Err-begin-clause-told : goal.returns-in-Err-begin-clause-told
returns-in-Err-begin-clause-told g c =
    let files = g.F.Files in
    let count = g.F.In.Source.faults c.in-Err-begin.source in
    subst (ToldUnopened (files.counts c.args.files.now) (files.counts c.done_in.new.self)) (sym c.opening_refusal.ensures)
    (unopened-told c.args.stage c.in-Err-begin.e count (files.counts c.args.files.now) (files.counts c.done_in.new.self)
    (λ is. subst (λ n. Rose n count) c.in-Ok.ensures.fresh.0 (c.in-Err-begin.ensures.failed is))
    (subst (λ o. IsAsTold (files.counts c.done_in.new.self) (option_map (λ cs. count ∷ cs) o)) c.open_in.ensures.counts c.done_in.ensures.counts))
