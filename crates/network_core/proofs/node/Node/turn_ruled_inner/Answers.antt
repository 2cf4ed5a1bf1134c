use Rattle.std.proofs.Common.{[], true, false, refl, ap}
use Rattle.chunk_queue.specs.Ends.{InSeen, OutSeen}
use Rattle.network_core.specs.Ruled.{taken, sent}
use Rattle.network_core.specs.Shown.{choice, shown}
use Rattle.network_core.proofs.Ruled.{current-more, ruled-turn, ruled-closes, ruled-sent}
use Rattle.network_core.proofs.node.Node.turn_ruled_inner.Goals as goal

pub step_inner-requires-clause-more : goal.step_inner-requires-clause-more
step_inner-requires-clause-more g c = current-more (shown g.W.Work [] c.args.self.now) c.requires.reads

pub returns-clause-turn : goal.returns-clause-turn
returns-clause-turn g c =
    let t = c.step_inner.ensures in
    ruled-turn g.W.Work false true c.args.self.now c.step_inner.new.self c.step_inner.result (taken c.args.input.now c.step_inner.new.input) (sent c.args.out.now c.step_inner.new.out)
    (g.met.W.Work.cutting c.args.self.now.work) t.row t.obeys t.holds

pub returns-clause-closes : goal.returns-clause-closes
returns-clause-closes g c = λ ins ok before.
    let t = c.step_inner.ensures in
    ruled-closes false true (choice g.W.Work c.args.self.now c.step_inner.new.self) (shown g.W.Work ins c.args.self.now) (shown g.W.Work ins c.step_inner.new.self) c.step_inner.result
    (taken c.args.input.now c.step_inner.new.input) (sent c.args.out.now c.step_inner.new.out) (t.row ins) ok c.args.input.now c.step_inner.new.input (ap (λ (i : InSeen). i.got) t.takes.grows) before

pub returns-clause-sent : goal.returns-clause-sent
returns-clause-sent g c =
    let t = c.step_inner.ensures in
    ruled-sent false true (choice g.W.Work c.args.self.now c.step_inner.new.self) (shown g.W.Work [] c.args.self.now) (shown g.W.Work [] c.step_inner.new.self) c.step_inner.result
    (taken c.args.input.now c.step_inner.new.input) (sent c.args.out.now c.step_inner.new.out) (t.row []) refl c.args.out.now c.step_inner.new.out (ap (λ (o : OutSeen). o.sent) t.sends.grows) c.requires.sent
