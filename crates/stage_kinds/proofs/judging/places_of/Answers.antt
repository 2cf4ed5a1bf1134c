use Rattle.std.proofs.Common.{ap, sym, ◌∙◌}
use Rattle.std.specs.Prelude.{option_map}
use Rattle.las_writer.specs.Records.{fits, unplaced, written}
use Rattle.stage_kinds.specs.Files.{reason_of_record, unwritten}
use Rattle.stage_kinds.proofs.Judged.{as-reason}
use Rattle.stage_kinds.proofs.judging.places_of.Goals as goal

pub returns-in-Las : goal.returns-in-Las
returns-in-Las c = λ k p. ap (λ f. option_map reason_of_record (unplaced (fits f k) (written f p))) c.of.ensures ∙ as-reason (fits c.in-Las.form k) (written c.in-Las.form p) ∙ ap (λ f. unwritten f k p) (sym c.in-Las.is)
