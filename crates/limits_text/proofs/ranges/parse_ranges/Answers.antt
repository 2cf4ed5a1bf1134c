use Rattle.std.proofs.Common.{sym, ap, ◌∙◌}
use Rattle.std.specs.Prelude.{Some}
use Rattle.limits_text.specs.declared.control.Control.TheVariants.{Name}
use Rattle.limits_text.specs.Texts.{ranges_of}
use Rattle.limits_text.proofs.Said.{ranges_says}
use Rattle.limits_text.proofs.Refused.{ranges_refused, cause_refused}
use Rattle.limits_text.proofs.ranges.parse_ranges.Goals as goal

pub returns-in-Ok-clause-ok : goal.returns-in-Ok-clause-ok
returns-in-Ok-clause-ok c = ranges_says c.args.text.now c.in-Ok.ranges.items c.in-Ok.ensures.ok ∙ ap Some (sym c.new.ensures)

pub returns-in-Err-clause-refused : goal.returns-in-Err-clause-refused
returns-in-Err-clause-refused c =
    cause_refused Name c.args.text.now (ranges_of c.args.text.now) (ranges_refused c.args.text.now) c.in-Err.err c.in-Err.ensures.fault
