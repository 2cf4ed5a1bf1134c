use Rattle.plug_stages.proofs.Counting.{classes_told}
use Rattle.plug_stages.proofs.classes.Classes.new.Goals as goal

pub returns-clause-rule : goal.returns-clause-rule
returns-clause-rule c points = classes_told points
