use Rattle.std.proofs.Common.{ap}
use Rattle.stage_kinds.specs.Stages.{plug_work, tally_work}
use Rattle.stage_kinds.proofs.stage_work.StageWorkWork.on_chunk.Goals as goal

pub returns-in-Plug-clause-meaning : goal.returns-in-Plug-clause-meaning
returns-in-Plug-clause-meaning g c = rw c.in-Plug.is (ap plug_work c.turn.ensures.meaning)

pub returns-in-Tally-clause-meaning : goal.returns-in-Tally-clause-meaning
returns-in-Tally-clause-meaning g c = rw c.in-Tally.is (ap tally_work c.turn-in-Tally.ensures.meaning)
