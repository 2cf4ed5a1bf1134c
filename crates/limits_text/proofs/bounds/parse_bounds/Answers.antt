use Rattle.limits_text.proofs.Said.{box_says}
use Rattle.limits_text.proofs.Refused.{box_refused, box_held, ok_so, err_so}
use Rattle.limits_text.proofs.bounds.parse_bounds.Goals as goal

pub returns-clause-ok : goal.returns-clause-ok
returns-clause-ok c = ok_so _ _ c.read_bounds.result (box_says c.args.text.now) c.read_bounds.ensures.ok

pub returns-clause-refused : goal.returns-clause-refused
returns-clause-refused c = err_so _ _ c.read_bounds.result (λ f. box_refused c.args.text.now f.at) c.read_bounds.ensures.fault

pub returns-clause-held : goal.returns-clause-held
returns-clause-held c = ok_so _ _ c.read_bounds.result (box_held c.args.text.now) c.read_bounds.ensures.ok
