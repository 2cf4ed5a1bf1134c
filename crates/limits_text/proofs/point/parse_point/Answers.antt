use Rattle.limits_text.proofs.Said.{point_says}
use Rattle.limits_text.proofs.Refused.{point_refused, point_held, ok_so, err_so}
use Rattle.limits_text.proofs.point.parse_point.Goals as goal

pub returns-clause-ok : goal.returns-clause-ok
returns-clause-ok c = ok_so _ _ c.read_point.result (point_says c.args.text.now) c.read_point.ensures.ok

pub returns-clause-held : goal.returns-clause-held
returns-clause-held c = ok_so _ _ c.read_point.result (point_held c.args.text.now) c.read_point.ensures.ok

pub returns-clause-refused : goal.returns-clause-refused
returns-clause-refused c = err_so _ _ c.read_point.result (λ f. point_refused c.args.text.now f.at) c.read_point.ensures.fault
