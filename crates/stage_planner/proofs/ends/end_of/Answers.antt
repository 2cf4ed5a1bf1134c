use Rattle.std.proofs.Common.{◌≡◌, ◌∙◌, ap, length, arith}
use Rattle.stage_planner.specs.Plans.{next, times_over, end_of}
use Rattle.stage_planner.proofs.ends.end_of.Goals as goal

pub returns : goal.returns
unfolding end_of
returns c =
    let all : c.loop-step._step ≡ length c.args.stages.now = grind arith in
    c.loop-step.invariant.at ∙ ap (λ n. times_over n (next c.args.stages.now) c.args.j) all
