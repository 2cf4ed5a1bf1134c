use Rattle.std.proofs.Common.{false}
use Rattle.plug_stages.proofs.SamePlug.{same_plug_meaning}
use Rattle.plug_stages.proofs.plug_work.PlugWork.end_view.Goals as goal

pub returns-clause-meaning : goal.returns-clause-meaning
returns-clause-meaning g c = let so = c.begin.ensures.same in
    same_plug_meaning g.P.PlugFilter c.args.self.now (record c.begin.new.self { begun = false })
    (record { place = so.place; called = so.called; opening = so.opening; step = so.step; only = so.only; layout = so.layout })
