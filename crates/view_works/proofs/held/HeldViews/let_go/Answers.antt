use Rattle.std.proofs.Common.{ap, ◌∙◌}
use Rattle.cloud_points.specs.Flows.{Flow}
use Rattle.cloud_points.specs.declared.point.Point.{Point}
use Rattle.view_works.specs.Giving.{still_gives}
use Rattle.view_works.proofs.Given.{here-let-go}
use Rattle.view_works.proofs.held.HeldViews.let_go.Goals as goal

pub returns-clause-gives : goal.returns-clause-gives
returns-clause-gives c =
    ap (λ (f : Flow Point). still_gives c.args.self.now.ended f c.args.self.now.view 0) c.let_go.ensures
    ∙ here-let-go c.args.self.now.ended c.args.self.now.views c.args.self.now.view c.args.self.now.at c.args.self.now.within
