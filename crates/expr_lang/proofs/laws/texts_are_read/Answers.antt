use Rattle.expr_lang.proofs.Told.{conditions_read, assignments_read}
use Rattle.expr_lang.proofs.laws.texts_are_read.Goals as goal

pub returns-clause-conditions : goal.returns-clause-conditions
returns-clause-conditions c = conditions_read

pub returns-clause-assignments : goal.returns-clause-assignments
returns-clause-assignments c = assignments_read
