use Rattle.std.proofs.Common.{◌<◌, ◌++◌, [], ◌∷◌, length, ap, sym, ◌∙◌, List}
use Rattle.std.proofs.lemmas.Bool.{ltb-true}
use Rattle.arrayvec.specs.ArrayVec.{ArrayVec}
use Rattle.circular_buffer.specs.Buffer.{Buffer}
use Rattle.cloud_points.specs.declared.point.Point.{Point}
use Rattle.cloud_points.specs.declared.item.Item.{Item}
use Rattle.chunk_queue.specs.Rule.{with_item}
use Rattle.chunk_queue.specs.Slots.{tag_item}
use Rattle.cloud_points.specs.Bodies.{bodies}
use Rattle.network_core.specs.declared.turned.Turned.TheVariants.{Gave}
use Rattle.network_core.specs.Hands.{seen_hand}
use Rattle.network_core.specs.Shown.{left, shown}
use Rattle.network_core.proofs.Rows.{gave_row, same_hand}
use Rattle.network_core.proofs.node.Node.give_to.Goals as goal

pub returns-clause-row : goal.returns-clause-row
returns-clause-row g c = λ ins input ch.
    let node = c.args.self.now in
    let counted = c.count_up.new.self in
    let items = c.args.out.now.items in
    let item = tag_item (record { no = node.given; kind = c.args.kind }) node.spread.items in
    let room : length items < c.args.out.now.capacity = ltb-true (length items) c.args.out.now.capacity (sym c.has_room.ensures ∙ c.if-not-has_room.false) in
    let pushed = c.give.ensures
    ∙ ap (λ (s : ArrayVec Point). with_item c.args.out.now (tag_item (record { no = node.given; kind = c.args.kind }) s.items)) c.count_up.ensures.spread in
    let hand = seen_hand counted.hand c.give.new.self.items in
    let seen = ap (λ h. record (shown g.W.Work ins counted) { hand = h }) (same_hand counted.hand c.give.new.self.items counted.spread.items c.count_up.ensures.hand)
    ∙ c.count_up.ensures.given ins in
    ap (λ (b : Buffer Item). left (record (shown g.W.Work ins counted) { hand = hand }) input (bodies b.items) Gave) pushed
    ∙ gave_row c.args.out.now.capacity ch (shown g.W.Work ins node) (record (shown g.W.Work ins counted) { hand = hand }) input items item room seen
