use Rattle.stage_meanings.specs.Steps.{steps_meaning}
use Rattle.stage_meanings.proofs.StepsCut.{steps_keep}
use Rattle.plug_stages.specs.Keeps.{named_keeps}
use Rattle.plug_stages.specs.PlugSteps.{plug_steps}
use Rattle.plug_stages.proofs.PlugStreams.{plug_gives, plug_faults, plug_remembers, fold_all}
use Rattle.plug_stages.proofs.laws.plugs_fold.Goals as goal

pub returns-clause-cuts : goal.returns-clause-cuts
returns-clause-cuts c nature opening step clear only = named_keeps nature (steps_meaning (plug_steps opening step clear only)) (steps_keep (plug_steps opening step clear only))

pub returns-clause-gives : goal.returns-clause-gives
returns-clause-gives c nature opening step clear only s f = plug_gives nature opening step clear only s f

pub returns-clause-faults : goal.returns-clause-faults
returns-clause-faults c nature opening step clear only s f = plug_faults nature opening step clear only s f

pub returns-clause-remembers : goal.returns-clause-remembers
returns-clause-remembers c nature opening step clear only s f closed e = plug_remembers nature opening step clear only s f closed e

pub returns-clause-all : goal.returns-clause-all
returns-clause-all c step clear opening view = fold_all step clear opening view
