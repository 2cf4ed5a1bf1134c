use Rattle.std.proofs.Common.{List, ap, sym, ◌∙◌, length}
use Rattle.cloud_points.specs.declared.item.Item.{Item}
use Rattle.cloud_points.specs.Queue.{up_to_limit}
use Rattle.crossbeam_queue.specs.Passes.{ruled_capacity}
use Rattle.chunk_queue.specs.declared.ends.Channel.{Channel}
use Rattle.chunk_queue.specs.Rule.{item_number, item_ends}
use Rattle.chunk_queue.specs.Ends.{OutSeen, ended}
use Rattle.chunk_queue.proofs.Steps.{sends, looks-sent}
use Rattle.chunk_queue.proofs.ends.RuledOut.push_slot.Goals as goal

pub push_as-requires-clause-rule : goal.push_as-requires-clause-rule
push_as-requires-clause-rule g c =
    let role = c.self.invariant.role in
    let line = ap (λ (ch : Channel). ruled_capacity ch.line) (sym c.deref.ensures) in
    let sent = ap (λ (o : OutSeen). o.sent) c.self.view_is in (
      sends item_number item_ends _ _ _ _ role (c.self.invariant.room ∙ line) (ap ended sent ∙ c.requires.goes_on)
          (ap item_number c.with_slot-parcel.ensures ∙ c.requires.number ∙ sym (ap (λ (l : List Item). up_to_limit (length l)) sent)),
      looks-sent item_number item_ends _ _ role,
    )
