use Rattle.std.proofs.Common.{Some, ◌∙◌, arith}
use Rattle.network_workers.proofs.NewEnds.{opening-next, length-one, new-ends-are, capacity-next, capacity-last}
use Rattle.network_workers.proofs.rooms.Ends.new.Goals as goal

pub loop-node-preserved : goal.loop-node-preserved
loop-node-preserved c =
    let now = c.loop-node.invariant in
    let outs = c.push_reserved.ensures in
    let inns = c.push_reserved-in-loop-node.ensures in (
      opening-next c.loop-node._node c.loop-node.outs.items c.push_reserved.new.self.items c.loop-node.inns.items c.push_reserved-in-loop-node.new.self.items
          c.split-out.result.0 c.split-out.result.1 now.0 c.split-out.ensures.queue c.split-out.ensures.nothing outs.items inns.items,
      length-one c.loop-node.outs.items c.push_reserved.new.self.items (Some c.split-out.result.0) c.loop-node._node outs.items now.1,
      length-one c.loop-node.inns.items c.push_reserved-in-loop-node.new.self.items (Some c.split-out.result.1) c.loop-node._node inns.items now.2,
      outs.capacity ∙ now.3,
      inns.capacity ∙ now.4,
      (let t = c.loop-node-test.true in let e = c.loop-node.auto._node-end in omega (arith, t, e)),
      capacity-next c.args.queue c.loop-node.outs.items c.push_reserved.new.self.items c.split-out.result.0 now.6 (c.split-out.ensures.capacity.0 ∙ c.in_ok-edge.ensures.0) outs.items,
    )

pub returns-clause-ends : goal.returns-clause-ends
returns-clause-ends c =
    let now = c.loop-node.invariant in
    new-ends-are c.args.nodes c.loop-node._node c.loop-node.outs.items c.push_reserved-2.new.self.items c.loop-node.inns.items c.requires.some
    (let f = c.loop-node-test.false in let e = c.loop-node.auto._node-end in let l = now.5 in omega (arith, f, e, l))
    now.0 now.1 c.push_reserved-2.ensures.items

pub returns-clause-queues : goal.returns-clause-queues
returns-clause-queues c =
    capacity-last c.args.queue c.loop-node.outs.items c.push_reserved-2.new.self.items c.loop-node.invariant.6 c.push_reserved-2.ensures.items
