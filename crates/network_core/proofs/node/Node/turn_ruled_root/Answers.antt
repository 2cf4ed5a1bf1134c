use Rattle.std.proofs.Common.{[], true, ap}
use Rattle.chunk_queue.specs.Ends.{InSeen}
use Rattle.network_core.specs.Ruled.{taken}
use Rattle.network_core.specs.Shown.{choice, shown}
use Rattle.network_core.proofs.Ruled.{current-more, ruled-turn, ruled-closes}
use Rattle.network_core.proofs.node.Node.turn_ruled_root.Goals as goal

pub step_root-requires : goal.step_root-requires
step_root-requires g c = record { more = current-more (shown g.W.Work [] c.args.self.now) c.requires.reads }

pub returns-clause-turn : goal.returns-clause-turn
returns-clause-turn g c =
    let t = c.step_root.ensures in
    ruled-turn g.W.Work true true c.args.self.now c.step_root.new.self c.step_root.result (taken c.args.input.now c.step_root.new.input) []
    (g.met.W.Work.cutting c.args.self.now.work) t.row t.obeys t.holds

pub returns-clause-closes : goal.returns-clause-closes
returns-clause-closes g c = λ ins ok before.
    let t = c.step_root.ensures in
    ruled-closes true true (choice g.W.Work c.args.self.now c.step_root.new.self) (shown g.W.Work ins c.args.self.now) (shown g.W.Work ins c.step_root.new.self) c.step_root.result
    (taken c.args.input.now c.step_root.new.input) [] (t.row ins) ok c.args.input.now c.step_root.new.input (ap (λ (i : InSeen). i.got) t.takes.grows) before
