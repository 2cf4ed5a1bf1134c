use Rattle.std.proofs.Common.{length, subst, sym, ◌∙◌}
use Rattle.std.proofs.lemmas.Bool.{ltb-true}
use Rattle.chunk_queue.specs.Slots.{tag_item}
use Rattle.chunk_queue.specs.Rule.{KeepsRuleOnPush}
use Rattle.chunk_queue.proofs.Keeps.{push-rule}
use Rattle.chunk_queue.proofs.plain.PlainQueue.push_swap.Goals as goal

pub returns-clause-rule : goal.returns-clause-rule
returns-clause-rule c =
    let queue = c.args.self.now in
    let item = tag_item c.args.tag c.args.points.now.value.items in
    let room = ltb-true (length queue.items) queue.capacity (sym c.has_room.ensures ∙ c.if-not-has_room.false) in
    subst (KeepsRuleOnPush queue item) (sym c.put_slot.ensures) (push-rule queue item room)
