use Rattle.plug_stages.proofs.SamePlug.{same_plug_meaning}
use Rattle.plug_stages.proofs.plug_work.PlugWork.turn.Goals as goal

pub returns-clause-meaning : goal.returns-clause-meaning
returns-clause-meaning g c = same_plug_meaning g.P.PlugFilter c.args.self.now c.judge_each-kept.new.self c.judge_each-kept.ensures.same
