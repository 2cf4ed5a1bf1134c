use Rattle.std.proofs.Common.{[], ap, subst, sym, ◌∙◌}
use Rattle.std.specs.Prelude.{is_some}
use Rattle.network_core.specs.LentEnds.{Before}
use Rattle.network_core.specs.Ruled.{HasSent}
use Rattle.network_core.specs.Shown.{shown}
use Rattle.network_core.proofs.node.Node.turn_ruled.Goals as goal

pub turn_ruled_root-requires : goal.turn_ruled_root-requires
turn_ruled_root-requires g c = record { reads = sym c.requires.reads ∙ ap is_some c.in-Some-input.is }

pub turn_ruled_leaf-requires : goal.turn_ruled_leaf-requires
turn_ruled_leaf-requires g c = record { sent = subst (Before (HasSent (shown g.W.Work [] c.args.self.now))) c.in-Some.is c.requires.sent }

pub turn_ruled_inner-requires-clause-reads : goal.turn_ruled_inner-requires-clause-reads
turn_ruled_inner-requires-clause-reads g c = sym c.requires.reads ∙ ap is_some c.in-Some-input-2.is

pub turn_ruled_inner-requires-clause-sent : goal.turn_ruled_inner-requires-clause-sent
turn_ruled_inner-requires-clause-sent g c = subst (Before (HasSent (shown g.W.Work [] c.args.self.now))) c.in-Some.is c.requires.sent

pub returns-in_default-input-clause-turn : goal.returns-in_default-input-clause-turn
returns-in_default-input-clause-turn g c = rw (c.in_default.is, c.in_default-input.is) c.turn_ruled_alone.ensures.turn

pub returns-in_default-clause-turn : goal.returns-in_default-clause-turn
returns-in_default-clause-turn g c = rw (c.in_default.is, c.in-Some-input.is) c.turn_ruled_root.ensures.turn

pub returns-in_default-clause-takes : goal.returns-in_default-clause-takes
returns-in_default-clause-takes g c = rw (c.in-Some-input.is) c.turn_ruled_root.ensures.takes

pub returns-in_default-clause-closes : goal.returns-in_default-clause-closes
returns-in_default-clause-closes g c = λ ins. rw (c.in-Some-input.is) (c.turn_ruled_root.ensures.closes ins)

pub returns-in_default-input-2-clause-turn : goal.returns-in_default-input-2-clause-turn
returns-in_default-input-2-clause-turn g c = rw (c.in-Some.is, c.in_default-input-2.is) c.turn_ruled_leaf.ensures.turn

pub returns-in_default-input-2-clause-sends : goal.returns-in_default-input-2-clause-sends
returns-in_default-input-2-clause-sends g c = rw (c.in-Some.is) c.turn_ruled_leaf.ensures.sends

pub returns-in_default-input-2-clause-sent : goal.returns-in_default-input-2-clause-sent
returns-in_default-input-2-clause-sent g c = rw (c.in-Some.is) c.turn_ruled_leaf.ensures.sent

pub returns-clause-turn : goal.returns-clause-turn
returns-clause-turn g c = rw (c.in-Some.is, c.in-Some-input-2.is) c.turn_ruled_inner.ensures.turn

pub returns-clause-takes : goal.returns-clause-takes
returns-clause-takes g c = rw (c.in-Some-input-2.is) c.turn_ruled_inner.ensures.takes

pub returns-clause-closes : goal.returns-clause-closes
returns-clause-closes g c = λ ins. rw (c.in-Some-input-2.is) (c.turn_ruled_inner.ensures.closes ins)

pub returns-clause-sends : goal.returns-clause-sends
returns-clause-sends g c = rw (c.in-Some.is) c.turn_ruled_inner.ensures.sends

pub returns-clause-sent : goal.returns-clause-sent
returns-clause-sent g c = rw (c.in-Some.is) c.turn_ruled_inner.ensures.sent
