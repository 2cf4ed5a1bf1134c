use Rattle.worked_examples.proofs.Parts.{chain_planned, one_made, trial_typed}
use Rattle.worked_examples.proofs.other_commands_are_answered.Goals as goal

pub returns : goal.returns
returns c = record { plan = chain_planned; generated = one_made; trial = trial_typed }
