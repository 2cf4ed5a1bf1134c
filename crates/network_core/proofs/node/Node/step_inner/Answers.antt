use Rattle.std.proofs.Common.{◌++◌, false}
use Rattle.cloud_points.specs.Bodies.{bodies}
use Rattle.network_core.specs.Ruled.{taken}
use Rattle.network_core.specs.Shown.{choice, shown}
use Rattle.network_core.proofs.Events.{from_hand, from_empty}
use Rattle.network_core.proofs.Ruled.{untaken, ungiven, taken_row, keeps-untaken, not_read, not_given}
use Rattle.network_core.proofs.node.Node.step_inner.Goals as goal

pub returns-in-Give-clause-row : goal.returns-in-Give-clause-row
returns-in-Give-clause-row g c = λ ins cap rest outs may.
    let ch = choice g.W.Work c.args.self.now c.give_ruled.new.self in
    untaken false cap ch (shown g.W.Work ins c.args.self.now) (shown g.W.Work ins c.give_ruled.new.self) rest outs c.args.input.now _
    (from_hand g.W.Work ins false cap ch c.args.self.now rest outs _ c.begin.new.self c.in-Give.kind c.in-Give.ensures.begins.0 c.in-Give.ensures.begins.1 (c.give_ruled.ensures.row ins _ cap rest outs ch may))

pub returns-in-Give-clause-takes : goal.returns-in-Give-clause-takes
returns-in-Give-clause-takes g c = not_read c.give_ruled.result c.args.input.now c.give_ruled.ensures.reads

pub returns-in-Give-clause-holds : goal.returns-in-Give-clause-holds
returns-in-Give-clause-holds g c = keeps-untaken g.W.Work c.args.self.now c.give_ruled.new.self c.args.input.now (λ before h. c.give_ruled.ensures.holds before (c.begin.ensures.holds before h))

pub returns-in-Take-clause-row : goal.returns-in-Take-clause-row
returns-in-Take-clause-row g c = λ ins cap rest outs may.
    let ch = choice g.W.Work c.args.self.now c.take_ruled.new.self in
    let more = bodies (taken c.args.input.now c.take_ruled.new.input) ++ rest in
    ungiven false cap ch (shown g.W.Work ins c.args.self.now) (shown g.W.Work ins c.take_ruled.new.self) rest outs c.args.out.now c.take_ruled.result _
    (taken_row g.W.Work ins false cap c.begin.new.self c.args.self.now c.take_ruled.new.self more outs c.in-Take.ensures.begins _ (c.take_ruled.ensures.row ins cap rest outs may))

pub returns-in-Take-clause-sends : goal.returns-in-Take-clause-sends
returns-in-Take-clause-sends g c = not_given c.take_ruled.result c.args.out.now c.take_ruled.ensures.gives

pub returns-in-Ended-clause-row : goal.returns-in-Ended-clause-row
returns-in-Ended-clause-row g c = λ ins cap rest outs may.
    let ch = choice g.W.Work c.args.self.now c.begin.new.self in
    ungiven false cap ch (shown g.W.Work ins c.args.self.now) (shown g.W.Work ins c.begin.new.self) rest outs c.args.out.now c.in-Ended.turned _
    (untaken false cap ch (shown g.W.Work ins c.args.self.now) (shown g.W.Work ins c.begin.new.self) rest outs c.args.input.now _
    (from_empty g.W.Work ins false cap ch c.args.self.now rest outs _ c.in-Ended.ensures.begins.0 (c.in-Ended.ensures.begins.1 ins false cap rest outs)))

pub returns-in-Ended-clause-takes : goal.returns-in-Ended-clause-takes
returns-in-Ended-clause-takes g c = not_read c.in-Ended.turned c.args.input.now c.in-Ended.ensures.alone.0

pub returns-in-Ended-clause-sends : goal.returns-in-Ended-clause-sends
returns-in-Ended-clause-sends g c = not_given c.in-Ended.turned c.args.out.now c.in-Ended.ensures.alone.1

pub returns-in-Ended-clause-holds : goal.returns-in-Ended-clause-holds
returns-in-Ended-clause-holds g c = keeps-untaken g.W.Work c.args.self.now c.begin.new.self c.args.input.now c.begin.ensures.holds
