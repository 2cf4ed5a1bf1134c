use Rattle.std.proofs.Common.{◌∙◌, ap, eq-eqb, ne_eqb}
use Rattle.stage_parts.proofs.Pushed.{one_stranger_more, no_stranger_more}
use Rattle.stage_parts.proofs.children.root_children.Goals as goal
use Rattle.stage_parts.proofs.children.root_children.Goals.{then-homes-node+in_ok-push, else-homes-node}

pub loop-node-preserved : goal.loop-node-preserved
loop-node-preserved c = elim c.if-homes-node.branch [
  | then-homes-node+in_ok-push w ↦ ap (λ v. v.items) w.all-is ∙ w.in_ok-push.ensures.items
      ∙ one_stranger_more c.args.own.now c.loop-node.all.items c.args.homes.now c.args.home c.loop-node.node (ne_eqb _ _ w.if-homes-node.true) c.loop-node.invariant
  | else-homes-node w ↦ ap (λ v. v.items) w.all-is
      ∙ no_stranger_more c.args.own.now c.loop-node.all.items c.args.homes.now c.args.home c.loop-node.node (eq-eqb _ _ w.if-homes-node.false) c.loop-node.invariant
]
