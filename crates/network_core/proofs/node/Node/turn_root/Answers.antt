use Rattle.std.proofs.Common.{true}
use Rattle.cloud_points.specs.Bodies.{bodies}
use Rattle.network_core.specs.Shown.{choice}
use Rattle.network_core.proofs.Events.{from_hand, from_empty}
use Rattle.network_core.proofs.Holds.{keeps-unread}
use Rattle.network_core.proofs.node.Node.turn_root.Goals as goal

pub returns-in-Give-clause-row : goal.returns-in-Give-clause-row
returns-in-Give-clause-row g c = λ ins cap out.
    from_hand g.W.Work ins true cap (choice g.W.Work c.args.self.now c.lay_down.new.self) c.args.self.now (bodies c.args.input.now.items) out _ c.begin.new.self c.in-Give.kind c.in-Give.ensures.begins.0 c.in-Give.ensures.begins.1
    (c.lay_down.ensures.row ins cap (bodies c.args.input.now.items) out (choice g.W.Work c.args.self.now c.lay_down.new.self))

pub returns-in-Ended-clause-row : goal.returns-in-Ended-clause-row
returns-in-Ended-clause-row g c = λ ins cap out.
    from_empty g.W.Work ins true cap (choice g.W.Work c.args.self.now c.begin.new.self) c.args.self.now (bodies c.args.input.now.items) out _ c.in-Ended.ensures.begins.0
    (c.in-Ended.ensures.begins.1 ins true cap (bodies c.args.input.now.items) out)

pub returns-in-Give-clause-holds : goal.returns-in-Give-clause-holds
returns-in-Give-clause-holds g c =
    keeps-unread g.W.Work c.args.self.now c.lay_down.new.self c.lay_down.result c.lay_down.ensures.left (bodies c.args.input.now.items) (λ before h. c.lay_down.ensures.holds before (c.begin.ensures.holds before h))

pub returns-in-Ended-clause-holds : goal.returns-in-Ended-clause-holds
returns-in-Ended-clause-holds g c =
    keeps-unread g.W.Work c.args.self.now c.begin.new.self c.in-Ended.turned c.in-Ended.ensures.begins.2.left (bodies c.args.input.now.items) c.begin.ensures.holds
