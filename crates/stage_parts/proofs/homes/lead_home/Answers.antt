use Rattle.stage_parts.proofs.Leading.{led-more}
use Rattle.stage_parts.proofs.homes.lead_home.Goals as goal

pub loop-node-preserved : goal.loop-node-preserved
loop-node-preserved c = led-more c.args.homes.now c.loop-node.homes c.args.nodes.now c.args.home c.loop-node.node-index c.loop-node-test.true c.requires c.loop-node.invariant
