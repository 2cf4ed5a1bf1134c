use Rattle.std.proofs.Common.{◌∙◌}
use Rattle.run_report.proofs.Padding.{padded_text}
use Rattle.run_report.proofs.padded.Padded.of.Goals as goal

pub invariant_of-result : goal.invariant_of-result
invariant_of-result g c = padded_text g.row.CAP c.args.text.now c.copy_from_slice.new.self (c.copy_from_slice.ensures.after ∙ c.as_bytes.ensures.value) c.requires c.utf8.text
