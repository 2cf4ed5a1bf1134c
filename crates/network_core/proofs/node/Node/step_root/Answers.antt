use Rattle.std.proofs.Common.{◌++◌, true}
use Rattle.cloud_points.specs.Bodies.{bodies}
use Rattle.network_core.specs.Ruled.{taken}
use Rattle.network_core.specs.Shown.{choice, shown}
use Rattle.network_core.proofs.Events.{from_hand, from_empty}
use Rattle.network_core.proofs.Ruled.{untaken, unsent, taken_row, keeps-untaken, not_read}
use Rattle.network_core.proofs.node.Node.step_root.Goals as goal

pub returns-in-Give-clause-row : goal.returns-in-Give-clause-row
returns-in-Give-clause-row g c = λ ins cap rest outs may.
    let ch = choice g.W.Work c.args.self.now c.lay_down.new.self in
    unsent true cap ch (shown g.W.Work ins c.args.self.now) (shown g.W.Work ins c.lay_down.new.self) rest outs c.lay_down.result _
    (untaken true cap ch (shown g.W.Work ins c.args.self.now) (shown g.W.Work ins c.lay_down.new.self) rest outs c.args.input.now _
    (from_hand g.W.Work ins true cap ch c.args.self.now rest outs _ c.begin.new.self c.in-Give.kind c.in-Give.ensures.begins.0 c.in-Give.ensures.begins.1 (c.lay_down.ensures.row ins cap rest outs ch)))

pub returns-in-Give-clause-takes : goal.returns-in-Give-clause-takes
returns-in-Give-clause-takes g c = not_read c.lay_down.result c.args.input.now c.lay_down.ensures.reads

pub returns-in-Give-clause-holds : goal.returns-in-Give-clause-holds
returns-in-Give-clause-holds g c = keeps-untaken g.W.Work c.args.self.now c.lay_down.new.self c.args.input.now (λ before h. c.lay_down.ensures.holds before (c.begin.ensures.holds before h))

pub returns-in-Take-clause-row : goal.returns-in-Take-clause-row
returns-in-Take-clause-row g c = λ ins cap rest outs may.
    let ch = choice g.W.Work c.args.self.now c.take_ruled.new.self in
    let more = bodies (taken c.args.input.now c.take_ruled.new.input) ++ rest in
    unsent true cap ch (shown g.W.Work ins c.args.self.now) (shown g.W.Work ins c.take_ruled.new.self) rest outs c.take_ruled.result _
    (taken_row g.W.Work ins true cap c.begin.new.self c.args.self.now c.take_ruled.new.self more outs c.in-Take.ensures.begins _ (c.take_ruled.ensures.row ins cap rest outs may))

pub returns-in-Ended-clause-row : goal.returns-in-Ended-clause-row
returns-in-Ended-clause-row g c = λ ins cap rest outs may.
    let ch = choice g.W.Work c.args.self.now c.begin.new.self in
    unsent true cap ch (shown g.W.Work ins c.args.self.now) (shown g.W.Work ins c.begin.new.self) rest outs c.in-Ended.turned _
    (untaken true cap ch (shown g.W.Work ins c.args.self.now) (shown g.W.Work ins c.begin.new.self) rest outs c.args.input.now _
    (from_empty g.W.Work ins true cap ch c.args.self.now rest outs _ c.in-Ended.ensures.begins.0 (c.in-Ended.ensures.begins.1 ins true cap rest outs)))

pub returns-in-Ended-clause-takes : goal.returns-in-Ended-clause-takes
returns-in-Ended-clause-takes g c = not_read c.in-Ended.turned c.args.input.now c.in-Ended.ensures.alone.0

pub returns-in-Ended-clause-holds : goal.returns-in-Ended-clause-holds
returns-in-Ended-clause-holds g c = keeps-untaken g.W.Work c.args.self.now c.begin.new.self c.args.input.now c.begin.ensures.holds
