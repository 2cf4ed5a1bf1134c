use Rattle.std.proofs.Common.{◌≡◌, ◌-◌, length, ap, sym, subst, ◌∙◌}
use Rattle.stage_options.specs.Roles.{is_gathering, role_of}
use Rattle.stage_options.specs.declared.stage.StageSpec.{StageSpec}
use Rattle.network_theory.specs.Forest.{IsForest}
use Rattle.stage_runs.proofs.Forests.{mapped, stages-forest}
use Rattle.stage_runs.proofs.plan.Plan.new.Goals as goal

pub homes_of-requires-clause-forest : goal.homes_of-requires-clause-forest
homes_of-requires-clause-forest c =
    let count : length c.args.stages.now - 1 ≡ length c.as_slice.result.now - 1 =
    ap (λ n. n - 1) (sym (ap (λ bs. length bs) (c.as_slice.ensures.value ∙ c.in_ok-gathers.ensures) ∙ mapped (λ (s : StageSpec). is_gathering (role_of s.options)) c.args.stages.now)) in
    subst (λ ins. IsForest ins (length c.as_slice.result.now - 1)) (sym c.in_ok-ins.ensures) (subst (IsForest _) count (stages-forest c.args.stages.now c.requires))
