use Rattle.stage_meanings.specs.Steps.{steps_meaning}
use Rattle.stage_meanings.proofs.StepsCut.{steps_keep}
use Rattle.plug_stages.specs.Keeps.{named_keeps}
use Rattle.plug_stages.specs.TallySteps.{tally_steps}
use Rattle.plug_stages.proofs.TallyStreams.{tally_gives, tally_faults, tally_remembers}
use Rattle.plug_stages.proofs.Told.{same_behind}
use Rattle.plug_stages.proofs.laws.tallies_count.Goals as goal

pub returns-clause-cuts : goal.returns-clause-cuts
returns-clause-cuts c nature step only = named_keeps nature (steps_meaning (tally_steps step only)) (steps_keep (tally_steps step only))

pub returns-clause-gives : goal.returns-clause-gives
returns-clause-gives c nature step only s f = tally_gives nature step only s f

pub returns-clause-faults : goal.returns-clause-faults
returns-clause-faults c nature step only s f = tally_faults nature step only s f

pub returns-clause-remembers : goal.returns-clause-remembers
returns-clause-remembers c nature step only s f e = tally_remembers nature step only s f e

pub returns-clause-same : goal.returns-clause-same
returns-clause-same c step s points = same_behind step s points
