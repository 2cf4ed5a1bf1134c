use Rattle.stage_laws.proofs.Steps.{at_steps, at_limited_steps}
use Rattle.stage_laws.proofs.decimation_steps.Goals as goal

pub returns : goal.returns
returns c = record {
  steps = λ step offset only view some all short k. at_steps step offset only view some all short k;
  limited = λ step offset limit only view some all fits k. at_limited_steps step offset only view some all limit fits k;
}
