use Rattle.std.proofs.Common.{ap, sym, ◌∙◌}
use Rattle.stage_forms.specs.Below.{reads_in}
use Rattle.stage_forms.specs.Starts.{writes_as}
use Rattle.stage_forms.proofs.Asking.{writes-made}
use Rattle.stage_forms.proofs.starts.stage_form.Goals as goal

pub returns-in_ok-form-in-Writes-clause-form : goal.returns-in_ok-form-in-Writes-clause-form
returns-in_ok-form-in-Writes-clause-form g c = λ has before handed is.
    c.writes_as.ensures.form ∙ ap (λ r. writes_as r (record { form = c.in_ok-form-in-Writes.form; only = c.in-Writes.only })) c.role.ensures
    ∙ writes-made c.args.options.now has handed before c.args.names.now (reads_in c.args.readers.now c.args.below.now) c.in-Writes.only c.in-Writes.extra c.in_ok-form-in-Writes.form (sym c.in-Writes.is ∙ is.bound) is.behind (c.in_ok-form-in-Writes.ensures.form has handed)
