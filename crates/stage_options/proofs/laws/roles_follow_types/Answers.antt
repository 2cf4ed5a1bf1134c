use Rattle.stage_options.proofs.Marks.{writers_named}
use Rattle.stage_options.proofs.laws.roles_follow_types.Goals as goal

pub returns-clause-writes : goal.returns-clause-writes
returns-clause-writes c = writers_named
