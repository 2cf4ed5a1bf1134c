use Rattle.std.proofs.Common.{[], ap, sym, ◌∙◌}
use Rattle.arrayvec.specs.ArrayVec.{array_vec_len}
use Rattle.network_core.proofs.Calms.{calm-given, told_given}
use Rattle.network_core.proofs.node.Node.count_up.Goals as goal

pub returns-clause-given : goal.returns-clause-given
returns-clause-given g c = λ ins. c.count_gift.ensures.given ins c.args.self.now.spread.items (sym (c.len-points.ensures.value ∙ ap array_vec_len c.points.ensures))

pub returns-clause-told : goal.returns-clause-told
returns-clause-told g c =
    told_given g.W.Work c.args.self.now c.count_gift.new.self c.args.kind c.requires c.count_gift.ensures.same.0 c.count_gift.ensures.same.1
    (ap (λ n. n.done) (c.count_gift.ensures.given [] c.args.self.now.spread.items (sym (c.len-points.ensures.value ∙ ap array_vec_len c.points.ensures))))

pub returns-clause-calm : goal.returns-clause-calm
returns-clause-calm g c =
    calm-given g.W.Work c.args.self.now c.count_gift.new.self c.args.kind c.requires c.count_gift.ensures.hand c.count_gift.ensures.same.0 c.count_gift.ensures.same.1 c.count_gift.ensures.calm.inputs c.count_gift.ensures.calm.chunk
    (ap (λ n. n.done) (c.count_gift.ensures.given [] c.args.self.now.spread.items (sym (c.len-points.ensures.value ∙ ap array_vec_len c.points.ensures))))
