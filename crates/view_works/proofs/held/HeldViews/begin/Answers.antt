use Rattle.view_works.proofs.Given.{all-given}
use Rattle.view_works.proofs.held.HeldViews.begin.Goals as goal

pub returns-clause-gives : goal.returns-clause-gives
returns-clause-gives c = all-given c.args.views
