use Rattle.std.proofs.Common.{sym, ap, ◌∙◌}
use Rattle.std.specs.Prelude.{Some}
use Rattle.limits_text.specs.declared.control.Control.TheVariants.{Polygon}
use Rattle.limits_text.specs.Texts.{polygon_of}
use Rattle.limits_text.proofs.Said.{polygon_says}
use Rattle.limits_text.proofs.Refused.{polygon_refused, polygon_held, cause_refused}
use Rattle.limits_text.proofs.polygon.parse_polygon.Goals as goal

pub new-requires : goal.new-requires
new-requires c = polygon_held c.args.text.now c.in-Ok.corners.items c.in-Ok.ensures.ok

pub returns-in-Ok-clause-ok : goal.returns-in-Ok-clause-ok
returns-in-Ok-clause-ok c = polygon_says c.args.text.now c.in-Ok.corners.items c.in-Ok.ensures.ok ∙ ap Some (sym c.new.ensures)

pub returns-in-Err-clause-refused : goal.returns-in-Err-clause-refused
returns-in-Err-clause-refused c =
    cause_refused Polygon c.args.text.now (polygon_of c.args.text.now) (polygon_refused c.args.text.now) c.in-Err.err c.in-Err.ensures.fault
