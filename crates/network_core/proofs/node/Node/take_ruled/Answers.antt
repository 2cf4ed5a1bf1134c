use Rattle.std.proofs.Common.{true, ap, ◌∙◌}
use Rattle.chunk_queue.specs.Slots.{tag_item}
use Rattle.network_theory.specs.Net as net
use Rattle.network_core.specs.Hands.{kind_item}
use Rattle.network_core.specs.Shown.{shown, chosen}
use Rattle.network_core.proofs.Rows.{same_hand}
use Rattle.network_core.proofs.Ruled.{took_ruled}
use Rattle.network_core.proofs.node.Node.take_ruled.Goals as goal

pub returns-in-Some-clause-row : goal.returns-in-Some-clause-row
returns-in-Some-clause-row g c = λ ins cap rest outs may.
    let ch = chosen g.W.Work c.args.self.now c.take.new.self in
    let points = c.receive.new.self.items in
    let same = same_hand c.args.self.now.hand points c.args.self.now.spread.items c.requires.hand in
    let taken = c.take.ensures.taken ins ∙ ap (λ h. net.taken ch (record (shown g.W.Work ins c.args.self.now) { hand = h }) (kind_item c.in-Some.tag.kind points)) same in
    took_ruled (shown g.W.Work ins c.args.self.now) (shown g.W.Work ins c.take.new.self) true cap rest outs ch c.args.input.now c.receive.new.input (tag_item c.in-Some.tag points) taken c.in-Some.ensures.took
