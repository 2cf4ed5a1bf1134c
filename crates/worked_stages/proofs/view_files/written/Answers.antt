use Rattle.worked_stages.proofs.TextFiles.{nowhere-in-text}
use Rattle.worked_stages.proofs.view_files.written.Goals as goal

pub write_view-requires-clause-nowhere : goal.write_view-requires-clause-nowhere
write_view-requires-clause-nowhere c = nowhere-in-text c.in_ok-ok.field-0 c.args.view.now
