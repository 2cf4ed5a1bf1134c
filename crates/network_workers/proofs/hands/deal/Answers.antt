use Rattle.std.proofs.Common.{List, length, refl, ap, subst, sym, ◌∙◌, arith}
use Rattle.network_core.specs.declared.node.Node.{Node}
use Rattle.network_workers.proofs.Deals.{IsDealing, dealing-nothing}
use Rattle.network_workers.proofs.AllDealt.{next-of, ended-dealt, ended-count, ended-few, ended-fit}
use Rattle.network_workers.proofs.hands.deal.Goals as goal

pub loop-node-init : goal.loop-node-init
loop-node-init g c = (
  subst (λ xs. IsDealing c.args.nodes c.args.ins.now c.args.room.outs.items c.args.room.inns.items c.args.room.takers.items (length c.args.room.deals.items) xs c.args.room.outs.items c.args.room.inns.items c.args.room.deals.items)
      (sym c.into_vec-nodes.ensures)
      (dealing-nothing c.args.nodes c.args.ins.now c.args.room.outs.items c.args.room.inns.items c.args.room.deals.items c.args.room.outs.cap c.args.room.takers.items c.args.room.sound c.requires.room),
  refl,
  (let a = ap (λ (xs : List (Node _)). length xs) c.into_vec-nodes.ensures in let b = c.into_vec-nodes.result.ok.0 in let d = c.into_vec-nodes.result.ok.1 in omega (arith, a, b, d)),
)

pub give_to-requires-clause-worker : goal.give_to-requires-clause-worker
give_to-requires-clause-worker g c =
    (next-of c.args.nodes c.args.ins.now c.args.room.outs.cap c.args.room.takers.items c.args.room.outs.items c.args.room.inns.items c.args.room.deals.items c.args.room.sound c.requires.room c.requires.forest
    c.loop-node.nodes.items c.loop-node.outs.items c.loop-node.inns.items c.loop-node.deals.items c.loop-node.invariant.0
    c.pop.new.self.items c.in-Some.node c.in-Some.ensures.items c.pop-in-Some.new.self.items c.pop-in-Some.result c.flatten-out.result c.pop-in-Some.ensures.items
    (λ l. c.pop-in-Some.ensures.variant.1 (let o = c.loop-node.outs.ok.0 in omega (arith, l, o))) c.flatten-out.ensures
    c.len-place.result (c.len-place.ensures ∙ c.pop.new.self.ok.0) c.children.result.now c.children.ensures
    c.index.result.now c.index.ensures).worker

pub give_to-requires-clause-there : goal.give_to-requires-clause-there
give_to-requires-clause-there g c =
    (next-of c.args.nodes c.args.ins.now c.args.room.outs.cap c.args.room.takers.items c.args.room.outs.items c.args.room.inns.items c.args.room.deals.items c.args.room.sound c.requires.room c.requires.forest
    c.loop-node.nodes.items c.loop-node.outs.items c.loop-node.inns.items c.loop-node.deals.items c.loop-node.invariant.0
    c.pop.new.self.items c.in-Some.node c.in-Some.ensures.items c.pop-in-Some.new.self.items c.pop-in-Some.result c.flatten-out.result c.pop-in-Some.ensures.items
    (λ l. c.pop-in-Some.ensures.variant.1 (let o = c.loop-node.outs.ok.0 in omega (arith, l, o))) c.flatten-out.ensures
    c.len-place.result (c.len-place.ensures ∙ c.pop.new.self.ok.0) c.children.result.now c.children.ensures
    c.index.result.now c.index.ensures).there

pub give_to-requires-clause-seat : goal.give_to-requires-clause-seat
give_to-requires-clause-seat g c =
    (next-of c.args.nodes c.args.ins.now c.args.room.outs.cap c.args.room.takers.items c.args.room.outs.items c.args.room.inns.items c.args.room.deals.items c.args.room.sound c.requires.room c.requires.forest
    c.loop-node.nodes.items c.loop-node.outs.items c.loop-node.inns.items c.loop-node.deals.items c.loop-node.invariant.0
    c.pop.new.self.items c.in-Some.node c.in-Some.ensures.items c.pop-in-Some.new.self.items c.pop-in-Some.result c.flatten-out.result c.pop-in-Some.ensures.items
    (λ l. c.pop-in-Some.ensures.variant.1 (let o = c.loop-node.outs.ok.0 in omega (arith, l, o))) c.flatten-out.ensures
    c.len-place.result (c.len-place.ensures ∙ c.pop.new.self.ok.0) c.children.result.now c.children.ensures
    c.index.result.now c.index.ensures).seat

pub give_to-requires-clause-ends : goal.give_to-requires-clause-ends
give_to-requires-clause-ends g c =
    (next-of c.args.nodes c.args.ins.now c.args.room.outs.cap c.args.room.takers.items c.args.room.outs.items c.args.room.inns.items c.args.room.deals.items c.args.room.sound c.requires.room c.requires.forest
    c.loop-node.nodes.items c.loop-node.outs.items c.loop-node.inns.items c.loop-node.deals.items c.loop-node.invariant.0
    c.pop.new.self.items c.in-Some.node c.in-Some.ensures.items c.pop-in-Some.new.self.items c.pop-in-Some.result c.flatten-out.result c.pop-in-Some.ensures.items
    (λ l. c.pop-in-Some.ensures.variant.1 (let o = c.loop-node.outs.ok.0 in omega (arith, l, o))) c.flatten-out.ensures
    c.len-place.result (c.len-place.ensures ∙ c.pop.new.self.ok.0) c.children.result.now c.children.ensures
    c.index.result.now c.index.ensures).ends

pub loop-node-preserved : goal.loop-node-preserved
loop-node-preserved g c = (
  (next-of c.args.nodes c.args.ins.now c.args.room.outs.cap c.args.room.takers.items c.args.room.outs.items c.args.room.inns.items c.args.room.deals.items c.args.room.sound c.requires.room c.requires.forest
      c.loop-node.nodes.items c.loop-node.outs.items c.loop-node.inns.items c.loop-node.deals.items c.loop-node.invariant.0
      c.pop.new.self.items c.in-Some.node c.in-Some.ensures.items c.pop-in-Some.new.self.items c.pop-in-Some.result c.flatten-out.result c.pop-in-Some.ensures.items
      (λ l. c.pop-in-Some.ensures.variant.1 (let o = c.loop-node.outs.ok.0 in omega (arith, l, o))) c.flatten-out.ensures
      c.len-place.result (c.len-place.ensures ∙ c.pop.new.self.ok.0) c.children.result.now c.children.ensures
      c.index.result.now c.index.ensures).dealt
      c.give_to.new.inns.items c.give_to.new.deals.items c.give_to.ensures.given c.give_to.ensures.others c.give_to.ensures.room c.give_to.ensures.left,
  c.pop-in-Some.ensures.capacity ∙ c.loop-node.invariant.1,
  (let a = c.pop.ensures.capacity in let b = c.loop-node.invariant.2 in omega (arith, a, b)),
)

pub returns-clause-dealt : goal.returns-clause-dealt
returns-clause-dealt g c = ended-dealt c.args.nodes c.args.ins.now c.args.room.outs.cap c.args.room.takers.items c.args.room.outs.items c.args.room.inns.items c.args.room.deals.items c.args.room.sound c.requires.room c.requires.forest
    c.loop-node.nodes.items c.loop-node.outs.items c.loop-node.inns.items c.loop-node.deals.items c.loop-node.invariant.0
    (let z = c.in_default.ensures.cases.0 in let k = c.loop-node.nodes.ok.0 in omega (arith, z, k))

pub returns-clause-few : goal.returns-clause-few
returns-clause-few g c = ended-few c.args.nodes c.args.ins.now c.args.room.outs.cap c.args.room.takers.items c.args.room.outs.items c.args.room.inns.items c.args.room.deals.items c.args.room.sound c.requires.room c.requires.forest
    c.loop-node.nodes.items c.loop-node.outs.items c.loop-node.inns.items c.loop-node.deals.items c.loop-node.invariant.0
    (let z = c.in_default.ensures.cases.0 in let k = c.loop-node.nodes.ok.0 in omega (arith, z, k))

pub returns-clause-fit : goal.returns-clause-fit
returns-clause-fit g c = ended-fit c.args.nodes c.args.ins.now c.args.room.outs.cap c.args.room.takers.items c.args.room.outs.items c.args.room.inns.items c.args.room.deals.items c.args.room.sound c.requires.room c.requires.forest
    c.loop-node.nodes.items c.loop-node.outs.items c.loop-node.inns.items c.loop-node.deals.items c.loop-node.invariant.0
    (let z = c.in_default.ensures.cases.0 in let k = c.loop-node.nodes.ok.0 in omega (arith, z, k))
    g.W.Work c.requires.fresh

pub returns-clause-workers : goal.returns-clause-workers
returns-clause-workers g c =
    let count = ended-count c.args.nodes c.args.ins.now c.args.room.outs.cap c.args.room.takers.items c.args.room.outs.items c.args.room.inns.items c.args.room.deals.items c.args.room.sound c.requires.room c.requires.forest
    c.loop-node.nodes.items c.loop-node.outs.items c.loop-node.inns.items c.loop-node.deals.items c.loop-node.invariant.0
    (let z = c.in_default.ensures.cases.0 in let k = c.loop-node.nodes.ok.0 in omega (arith, z, k)) in
    let most = c.args.room.sound.few.1 in (count, omega (arith, count, most))
