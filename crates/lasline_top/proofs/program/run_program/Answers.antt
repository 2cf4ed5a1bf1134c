use Rattle.std.proofs.Common.{sym, ◌∙◌}
use Rattle.lasline_top.proofs.Statuses.{only-ok}
use Rattle.lasline_top.proofs.program.run_program.Goals as goal

pub returns-in-Ok-clause-remembered : goal.returns-in-Ok-clause-remembered
returns-in-Ok-clause-remembered g c = rw (c.in-Ok.is, sym c.deref.ensures.value) (λ code. c.lasline_plugged.ensures.remembered (only-ok c.lasline_plugged.result (sym c.code.ensures ∙ code)))
