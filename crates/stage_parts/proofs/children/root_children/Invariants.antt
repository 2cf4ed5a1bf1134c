use Rattle.std.proofs.Common.{◌≡◌, ◌++◌}
use Rattle.stage_parts.specs.Parts.{strangers}
use Rattle.stage_parts.proofs.children.root_children.Given as goal

-- the strangers before this node stand behind the root's own
abbrev pub invariant-loop-node : goal.invariant-loop-node
invariant-loop-node l = l.all.items ≡ l.own ++ strangers l.homes l.home l.node
