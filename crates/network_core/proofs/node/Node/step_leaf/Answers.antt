use Rattle.std.proofs.Common.{false, refl}
use Rattle.network_core.specs.declared.turned.Turned.TheVariants.{Idle}
use Rattle.network_core.specs.declared.turned.Why.TheVariants.{Empty}
use Rattle.network_core.specs.Shown.{choice, chosen, shown}
use Rattle.network_core.proofs.Events.{from_hand, from_empty}
use Rattle.network_core.proofs.Ruled.{ungiven, taken_row, idle_row, not_given}
use Rattle.network_core.proofs.node.Node.step_leaf.Goals as goal

pub returns-in-Give-clause-row : goal.returns-in-Give-clause-row
returns-in-Give-clause-row g c = λ ins cap rest outs may.
    let ch = choice g.W.Work c.args.self.now c.give_ruled.new.self in
    from_hand g.W.Work ins false cap ch c.args.self.now rest outs _ c.begin.new.self c.in-Give.kind c.in-Give.ensures.begins.0 c.in-Give.ensures.begins.1 (c.give_ruled.ensures.row ins _ cap rest outs ch may)

pub returns-in-Take-clause-row : goal.returns-in-Take-clause-row
returns-in-Take-clause-row g c = λ ins cap rest outs may.
    let ch = choice g.W.Work c.args.self.now c.begin.new.self in
    ungiven false cap ch (shown g.W.Work ins c.args.self.now) (shown g.W.Work ins c.begin.new.self) rest outs c.args.out.now (Idle Empty) _
    (taken_row g.W.Work ins false cap c.begin.new.self c.args.self.now c.begin.new.self rest outs c.in-Take.ensures.begins _
    (idle_row (chosen g.W.Work c.begin.new.self c.begin.new.self) (shown g.W.Work ins c.begin.new.self) rest outs (may.none refl)))

pub returns-in-Take-clause-sends : goal.returns-in-Take-clause-sends
returns-in-Take-clause-sends g c = not_given (Idle Empty) c.args.out.now refl

pub returns-in-Ended-clause-row : goal.returns-in-Ended-clause-row
returns-in-Ended-clause-row g c = λ ins cap rest outs may.
    let ch = choice g.W.Work c.args.self.now c.begin.new.self in
    ungiven false cap ch (shown g.W.Work ins c.args.self.now) (shown g.W.Work ins c.begin.new.self) rest outs c.args.out.now c.in-Ended.turned _
    (from_empty g.W.Work ins false cap ch c.args.self.now rest outs _ c.in-Ended.ensures.begins.0 (c.in-Ended.ensures.begins.1 ins false cap rest outs))

pub returns-in-Ended-clause-sends : goal.returns-in-Ended-clause-sends
returns-in-Ended-clause-sends g c = not_given c.in-Ended.turned c.args.out.now c.in-Ended.ensures.alone.1
