use Rattle.std.proofs.Common.{[], ap, sym, ◌∙◌}
use Rattle.arrayvec.specs.ArrayVec.{array_vec_len}
use Rattle.chunk_queue.specs.declared.tag.Tag.{Tag}
use Rattle.chunk_queue.specs.Slots.{tag_item}
use Rattle.network_core.specs.Shown.{shown}
use Rattle.network_core.proofs.Calms.{calm-given, told_given}
use Rattle.network_core.proofs.Ruled.{gave_ruled, gave-one}
use Rattle.network_core.proofs.node.Node.give_ruled.Goals as goal

pub returns-clause-row : goal.returns-clause-row
returns-clause-row g c = λ ins reads cap rest outs ch may.
    let node = c.args.self.now in
    let tag : Tag = record { no = node.given; kind = c.args.kind } in
    let counted = sym (c.len-points.ensures.value ∙ ap array_vec_len c.points.ensures) in
    gave_ruled (shown g.W.Work ins node) (shown g.W.Work ins c.count_gift.new.self) reads cap rest outs ch c.args.out.now c.send.new.out (tag_item tag node.spread.items) may (c.count_gift.ensures.given ins node.spread.items counted)
    c.if-not-send.ensures.pushed

pub returns-clause-sends : goal.returns-clause-sends
returns-clause-sends g c = gave-one c.args.out.now c.send.new.out _ c.if-not-send.ensures.pushed c.if-not-send.ensures.room

pub returns-clause-told : goal.returns-clause-told
returns-clause-told g c =
    told_given g.W.Work c.args.self.now c.count_gift.new.self c.args.kind c.requires.hand c.count_gift.ensures.same.0 c.count_gift.ensures.same.1
    (ap (λ n. n.done) (c.count_gift.ensures.given [] c.args.self.now.spread.items (sym (c.len-points.ensures.value ∙ ap array_vec_len c.points.ensures))))

pub returns-clause-calm : goal.returns-clause-calm
returns-clause-calm g c =
    calm-given g.W.Work c.args.self.now c.count_gift.new.self c.args.kind c.requires.hand c.count_gift.ensures.hand c.count_gift.ensures.same.0 c.count_gift.ensures.same.1 c.count_gift.ensures.calm.inputs c.count_gift.ensures.calm.chunk
    (ap (λ n. n.done) (c.count_gift.ensures.given [] c.args.self.now.spread.items (sym (c.len-points.ensures.value ∙ ap array_vec_len c.points.ensures))))
