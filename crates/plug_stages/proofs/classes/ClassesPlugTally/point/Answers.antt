use Rattle.plug_stages.proofs.Counting.{counted_one}
use Rattle.plug_stages.proofs.classes.ClassesPlugTally.point.Goals as goal

pub returns-clause-stepped : goal.returns-clause-stepped
returns-clause-stepped c = counted_one c.args.self.now.counts c.args.p.now c.saturating_add.result c.saturating_add.ensures
