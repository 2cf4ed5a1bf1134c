use Rattle.std.proofs.Common.{subst}
use Rattle.cloud_points.specs.ExtraNames.{dim_in}
use Rattle.cloud_points.specs.Layouts.{holds}
use Rattle.expr_eval.specs.Bindings.{bound_dim}
use Rattle.stage_names.specs.Faults.{IsFaultOf}
use Rattle.name_binding.specs.Ferries.{target_refused}
use Rattle.name_binding.specs.Refusals.{refused}
use Rattle.name_binding.proofs.Behind.{second_fault}
use Rattle.name_binding.proofs.ferries.bind_ferry.Goals as goal

pub returns-in-Err-bind_target-clause-fault : goal.returns-in-Err-bind_target-clause-fault
returns-in-Err-bind_target-clause-fault c =
    let names = c.args.names.now in
    let f = c.args.ferry.now in
    let err = c.in-Err-bind_target.err in
    second_fault (refused c.args.i (bound_dim (holds c.args.layout.now) names f.from)) (target_refused c.args.i names f.to (dim_in f.to names)) err
    c.in-Ok.ensures.none
    (subst (λ to. IsFaultOf (target_refused c.args.i names to (dim_in to names)) err) c.as_str.ensures c.in-Err-bind_target.ensures.fault)
