use Rattle.std.proofs.Common.{ap, ◌∙◌}
use Rattle.circular_buffer.specs.Buffer.{Buffer}
use Rattle.cloud_points.specs.declared.item.Item.{Item}
use Rattle.cloud_points.specs.Bodies.{bodies}
use Rattle.chunk_queue.specs.Slots.{tag_item}
use Rattle.network_theory.specs.Net as net
use Rattle.network_core.specs.declared.turned.Turned.TheVariants.{Took}
use Rattle.network_core.specs.Hands.{kind_item}
use Rattle.network_core.specs.Shown.{left, shown, chosen}
use Rattle.network_core.proofs.Rows.{took_row, same_hand}
use Rattle.network_core.proofs.node.Node.take_from.Goals as goal

pub returns-in-Some-clause-row : goal.returns-in-Some-clause-row
returns-in-Some-clause-row g c = λ ins out.
    let ch = chosen g.W.Work c.args.self.now c.take.new.self in
    let same = same_hand c.args.self.now.hand c.fetch.new.self.items c.args.self.now.spread.items c.requires.hand in
    let taken = c.take.ensures.taken ins ∙ ap (λ h. net.taken (chosen g.W.Work c.args.self.now c.take.new.self) (record (shown g.W.Work ins c.args.self.now) { hand = h }) (kind_item c.in-Some.tag.kind c.fetch.new.self.items)) same in
    ap (λ n. left n (bodies c.fetch.new.input.items) out Took) taken
    ∙ ap (λ (b : Buffer Item). left (net.taken ch (shown g.W.Work ins c.args.self.now) (kind_item c.in-Some.tag.kind c.fetch.new.self.items)) (bodies b.items) out Took) c.in-Some.ensures.items
    ∙ took_row ch (shown g.W.Work ins c.args.self.now) c.args.input.now.items (tag_item c.in-Some.tag c.fetch.new.self.items) out c.in-Some.ensures.popped.0
