use Rattle.std.proofs.Common.{◌≡◌, map}
use Rattle.std.specs.List.{range_with_len}
use Rattle.stage_parts.specs.Parts.{part_children}
use Rattle.stage_parts.proofs.children.part_ins.Given as goal

-- the lists of the nodes before this one
abbrev pub invariant-loop-node : goal.invariant-loop-node
invariant-loop-node l = map (λ v. v.items) l.lists.items ≡ map (part_children l.gathers l.ins l.homes l.home l.root) (range_with_len 0 l.node)
