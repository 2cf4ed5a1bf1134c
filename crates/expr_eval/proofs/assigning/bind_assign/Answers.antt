use Rattle.cloud_points.specs.Layouts.{holds}
use Rattle.expr_eval.proofs.Renamed.{dim_bound}
use Rattle.expr_eval.proofs.assigning.bind_assign.Goals as goal

pub returns-clause-renamed : goal.returns-clause-renamed
returns-clause-renamed c =
    let target = dim_bound (holds c.args.layout.now) c.args.names.now c.args.assign.now.target c.in_ok-target.target c.in_ok-target.ensures.ok in
    let value = c.in_ok-value.ensures.renamed in
    let only = c.in_ok-only.ensures.renamed in
    cc
