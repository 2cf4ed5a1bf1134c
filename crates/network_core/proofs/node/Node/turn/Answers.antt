use Rattle.std.proofs.Common.{[], Some, None, refl}
use Rattle.network_core.specs.Shown.{choice, shown}
use Rattle.network_core.proofs.Lent.{lent_row}
use Rattle.network_core.proofs.node.Node.turn.Goals as goal

pub returns-in_default-input-clause-row : goal.returns-in_default-input-clause-row
returns-in_default-input-clause-row g c = λ ins. rw (c.in_default.is, c.in_default-input.is)
    (lent_row (choice g.W.Work c.args.self.now c.turn_alone.new.self) (shown g.W.Work ins c.args.self.now) _ c.args.input c.args.out None None c.in_default-input.is c.in_default.is (c.turn_alone.ensures.row ins 0 []))

pub returns-in_default-clause-row : goal.returns-in_default-clause-row
returns-in_default-clause-row g c = λ ins. rw (c.in_default.is, c.in-Some-input.is)
    (lent_row (choice g.W.Work c.args.self.now c.turn_root.new.self) (shown g.W.Work ins c.args.self.now) _ c.args.input c.args.out (Some c.in-Some-input.input) None c.in-Some-input.is c.in_default.is (c.turn_root.ensures.row ins 0 []))

pub returns-in_default-clause-left : goal.returns-in_default-clause-left
returns-in_default-clause-left g c = rw (c.in-Some-input.is) c.turn_root.ensures.left

pub returns-in_default-input-2-clause-row : goal.returns-in_default-input-2-clause-row
returns-in_default-input-2-clause-row g c = λ ins. rw (c.in-Some.is, c.in_default-input-2.is)
    (lent_row (choice g.W.Work c.args.self.now c.turn_leaf.new.self) (shown g.W.Work ins c.args.self.now) _ c.args.input c.args.out None (Some c.in-Some.out) c.in_default-input-2.is c.in-Some.is (c.turn_leaf.ensures.row ins))

pub returns-in_default-input-2-clause-above : goal.returns-in_default-input-2-clause-above
returns-in_default-input-2-clause-above g c = rw (c.in-Some.is) c.turn_leaf.ensures.above

pub returns-clause-rooms : goal.returns-clause-rooms
returns-clause-rooms g c = rw (c.in-Some.is, c.in-Some-input-2.is) c.turn_inner.ensures.room

pub returns-in_default-clause-rooms : goal.returns-in_default-clause-rooms
returns-in_default-clause-rooms g c = rw (c.in_default.is, c.in-Some-input.is) (c.turn_root.ensures.room, refl)

pub returns-in_default-input-2-clause-rooms : goal.returns-in_default-input-2-clause-rooms
returns-in_default-input-2-clause-rooms g c = rw (c.in-Some.is, c.in_default-input-2.is) (refl, c.turn_leaf.ensures.room)

pub returns-clause-row : goal.returns-clause-row
returns-clause-row g c = λ ins. rw (c.in-Some.is, c.in-Some-input-2.is)
    (lent_row (choice g.W.Work c.args.self.now c.turn_inner.new.self) (shown g.W.Work ins c.args.self.now) _ c.args.input c.args.out (Some c.in-Some-input-2.input) (Some c.in-Some.out) c.in-Some-input-2.is c.in-Some.is (c.turn_inner.ensures.row ins))

pub returns-clause-above : goal.returns-clause-above
returns-clause-above g c = rw (c.in-Some.is) c.turn_inner.ensures.above

pub returns-clause-left : goal.returns-clause-left
returns-clause-left g c = rw (c.in-Some-input-2.is) c.turn_inner.ensures.left
