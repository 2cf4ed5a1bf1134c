use Rattle.std.proofs.Common.{ap}
use Rattle.stage_kinds.specs.Stages.{plug_work}
use Rattle.stage_kinds.proofs.stage_work.StageWorkWork.on_end_view.Goals as goal

pub returns-in-Plug-clause-meaning : goal.returns-in-Plug-clause-meaning
returns-in-Plug-clause-meaning g c = rw c.in-Plug.is (ap plug_work c.end_view.ensures.meaning)
