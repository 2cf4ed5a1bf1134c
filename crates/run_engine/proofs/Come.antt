-- What stages came to that have no fault.
use Rattle.std.proofs.Common.{◌≡◌, List, Option, Some, None, ap, sym, subst, ◌∙◌}
use Rattle.cloud_points.specs.declared.faults.StageFault.{StageFault}
use Rattle.run_outcome.specs.Outcomes.{refusal_for}
use Rattle.run_outcome.specs.declared.ended.Ended.{Ended}
use Rattle.run_report.specs.declared.refusal.Refusal.{Refusal}
use Rattle.run_engine.specs.Jobs.{CameTo}
use Rattle.run_engine.specs.declared.job.Step.{Step}
use Rattle.run_engine.specs.declared.job.Step.TheVariants.{Done}

pub none-came : {S K P Q E : Type 0} {shown : List (Option StageFault)} (refusal : Refusal) (step : Step S K P Q E) (ended : Ended) → step ≡ Done ended → shown ≡ ended.faults.items → refusal_for shown ≡ None → CameTo refusal step → ⊥
none-came refusal step ended is same none came =
    let met : refusal_for ended.faults.items ≡ Some refusal = subst (CameTo refusal) is came in
    let no : None ≡ Some refusal = sym none ∙ ap refusal_for same ∙ met in
    absurd cc
