use Rattle.std.proofs.Common.{false}
use Rattle.cloud_points.specs.Bodies.{bodies}
use Rattle.network_core.specs.Shown.{choice}
use Rattle.network_core.proofs.Events.{from_hand, from_empty}
use Rattle.network_core.proofs.Holds.{keeps-unread}
use Rattle.network_core.proofs.node.Node.turn_inner.Goals as goal

pub returns-in-Give-clause-row : goal.returns-in-Give-clause-row
returns-in-Give-clause-row g c = λ ins.
    from_hand g.W.Work ins false c.args.out.now.capacity (choice g.W.Work c.args.self.now c.give_to.new.self) c.args.self.now (bodies c.args.input.now.items) (bodies c.args.out.now.items) _ c.begin.new.self c.in-Give.kind c.in-Give.ensures.begins.0 c.in-Give.ensures.begins.1
    (c.give_to.ensures.row ins (bodies c.args.input.now.items) (choice g.W.Work c.args.self.now c.give_to.new.self))

pub returns-in-Ended-clause-row : goal.returns-in-Ended-clause-row
returns-in-Ended-clause-row g c = λ ins.
    from_empty g.W.Work ins false c.args.out.now.capacity (choice g.W.Work c.args.self.now c.begin.new.self) c.args.self.now (bodies c.args.input.now.items) (bodies c.args.out.now.items) _ c.in-Ended.ensures.begins.0
    (c.in-Ended.ensures.begins.1 ins false c.args.out.now.capacity (bodies c.args.input.now.items) (bodies c.args.out.now.items))

pub returns-in-Give-clause-holds : goal.returns-in-Give-clause-holds
returns-in-Give-clause-holds g c =
    keeps-unread g.W.Work c.args.self.now c.give_to.new.self c.give_to.result c.give_to.ensures.left (bodies c.args.input.now.items) (λ before h. c.give_to.ensures.holds before (c.begin.ensures.holds before h))

pub returns-in-Ended-clause-holds : goal.returns-in-Ended-clause-holds
returns-in-Ended-clause-holds g c =
    keeps-unread g.W.Work c.args.self.now c.begin.new.self c.in-Ended.turned c.in-Ended.ensures.begins.2.left (bodies c.args.input.now.items) c.begin.ensures.holds
