use Rattle.std.proofs.Common.{length, subst, sym, ◌∙◌}
use Rattle.std.proofs.lemmas.Bool.{ltb-true}
use Rattle.chunk_queue.specs.Rule.{KeepsRuleOnPush}
use Rattle.chunk_queue.proofs.Keeps.{push-rule}
use Rattle.chunk_queue.proofs.plain.PlainQueue.push.Goals as goal

pub returns-clause-rule : goal.returns-clause-rule
returns-clause-rule c =
    let queue = c.args.self.now in
    let room = ltb-true (length queue.items) queue.capacity (sym c.has_room.ensures ∙ c.if-not-has_room.false) in
    subst (KeepsRuleOnPush queue c.args.item) (sym c.put_body.ensures) (push-rule queue c.args.item room)
