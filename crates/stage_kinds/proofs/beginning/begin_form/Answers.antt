use Rattle.std.proofs.Common.{ap}
use Rattle.las_writer.specs.Totals.{totals_of}
use Rattle.stage_kinds.proofs.beginning.begin_form.Goals as goal

pub returns-in-Ok-begin-clause-none : goal.returns-in-Ok-begin-clause-none
unfolding totals_of
returns-in-Ok-begin-clause-none g c = ap (λ t. t.count) c.in-Ok-begin.ensures.totals
