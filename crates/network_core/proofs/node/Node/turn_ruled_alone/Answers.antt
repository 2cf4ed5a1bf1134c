use Rattle.std.proofs.Common.{[], true, false}
use Rattle.network_core.specs.Shown.{choice, shown}
use Rattle.network_core.proofs.Holds.{keeps-nothing}
use Rattle.network_core.proofs.Ruled.{ruled-turn, unread_row}
use Rattle.network_core.proofs.node.Node.turn_ruled_alone.Goals as goal

pub returns : goal.returns
returns g c =
    let t = c.turn_alone.ensures in
    let old = c.args.self.now in
    let new = c.turn_alone.new.self in
    record {
      turn = ruled-turn g.W.Work true false old new c.turn_alone.result [] [] (g.met.W.Work.cutting old.work)
          (λ ins. unread_row true (choice g.W.Work old new) (shown g.W.Work ins old) (shown g.W.Work ins new) c.turn_alone.result (t.row ins))
          t.obeys (keeps-nothing g.W.Work old new t.holds);
    }
