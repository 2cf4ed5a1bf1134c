use Rattle.std.proofs.Common.{[], false, refl, ap}
use Rattle.chunk_queue.specs.Ends.{OutSeen}
use Rattle.network_core.specs.Ruled.{sent}
use Rattle.network_core.specs.Shown.{choice, shown}
use Rattle.network_core.proofs.Holds.{keeps-nothing}
use Rattle.network_core.proofs.Ruled.{ruled-turn, ruled-sent}
use Rattle.network_core.proofs.node.Node.turn_ruled_leaf.Goals as goal

pub returns-clause-turn : goal.returns-clause-turn
returns-clause-turn g c =
    let t = c.step_leaf.ensures in
    ruled-turn g.W.Work false false c.args.self.now c.step_leaf.new.self c.step_leaf.result [] (sent c.args.out.now c.step_leaf.new.out)
    (g.met.W.Work.cutting c.args.self.now.work) t.row t.obeys (keeps-nothing g.W.Work c.args.self.now c.step_leaf.new.self t.holds)

pub returns-clause-sent : goal.returns-clause-sent
returns-clause-sent g c =
    let t = c.step_leaf.ensures in
    ruled-sent false false (choice g.W.Work c.args.self.now c.step_leaf.new.self) (shown g.W.Work [] c.args.self.now) (shown g.W.Work [] c.step_leaf.new.self) c.step_leaf.result
    [] (sent c.args.out.now c.step_leaf.new.out) (t.row []) refl c.args.out.now c.step_leaf.new.out (ap (λ (o : OutSeen). o.sent) t.sends.grows) c.requires.sent
