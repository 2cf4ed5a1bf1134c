use Rattle.std.proofs.Common.{◌≡◌, ◌∙◌, ap, arith, length, map, sym, subst}
use Rattle.stage_planner.specs.Covering.{Covers}
use Rattle.stage_planner.specs.Plans.{step_at, ends, plan_of}
use Rattle.stage_planner.proofs.Covers.{covered}
use Rattle.stage_planner.proofs.Forest.{few-stages, tree-forest}
use Rattle.stage_planner.proofs.Parts.{steps_next}
use Rattle.stage_planner.proofs.planning.plan.Goals as goal

pub push_step-requires-clause-few : goal.push_step-requires-clause-few
push_step-requires-clause-few c = few-stages c.as_slice-stages.result.now c.as_slice-stages.ensures.is_tree

pub loop-i-preserved : goal.loop-i-preserved
loop-i-preserved c = steps_next c.as_slice-stages.result.now c.loop-i.i _ _ c.loop-i.invariant c.in_ok-push_step.ensures

pub returns-clause-plan : goal.returns-clause-plan
returns-clause-plan c =
    let all : c.loop-i.i ≡ length c.as_slice-stages.result.now = grind arith in
    c.new.ensures
    ∙ c.loop-i.invariant
    ∙ ap (λ n. map (step_at c.as_slice-stages.result.now) (ends c.as_slice-stages.result.now n)) all
    ∙ ap plan_of c.as_slice-stages.ensures.stages

pub returns-clause-covers : goal.returns-clause-covers
returns-clause-covers c =
    let all : c.loop-i.i ≡ length c.as_slice-stages.result.now = grind arith in
    let made = c.new.ensures
    ∙ c.loop-i.invariant
    ∙ ap (λ n. map (step_at c.as_slice-stages.result.now) (ends c.as_slice-stages.result.now n)) all in
    subst (λ stages. Covers stages c.new.result) c.as_slice-stages.ensures.stages
    (subst (Covers c.as_slice-stages.result.now) (sym made) (covered c.as_slice-stages.result.now (tree-forest c.as_slice-stages.result.now c.as_slice-stages.ensures.is_tree)))
