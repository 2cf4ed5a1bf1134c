use Rattle.stage_parts.proofs.Descent.{HomesFrom}
use Rattle.stage_parts.proofs.homes.homes_of.Given as goal

-- the homes below the nodes from here on are there
abbrev pub invariant-loop-node : goal.invariant-loop-node
invariant-loop-node l = HomesFrom l.node l.gathers l.ins l.homes.items
