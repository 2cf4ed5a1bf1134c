use Rattle.std.proofs.Common.{take}
use Rattle.stage_parts.proofs.Leading.{Led}
use Rattle.stage_parts.proofs.homes.lead_home.Given as goal

-- the first so many nodes have the home
abbrev pub invariant-loop-node : goal.invariant-loop-node
invariant-loop-node l = Led l.fn.homes l.homes (take l.node-index l.nodes) l.home
