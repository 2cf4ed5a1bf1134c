use Rattle.std.proofs.Common.{◌∙◌, sym, subst, ◌<◌}
use Rattle.network_workers.proofs.LastEnds.{child-within, child-one}
use Rattle.network_workers.proofs.gathering.settle_last.Goals as goal

pub index_mut-requires : goal.index_mut-requires
index_mut-requires c =
    subst (λ n. c.args.child < n) (sym c.args.outs.now.ok.0)
    (child-within c.args.outs.now.items c.args.child c.args.ins.now.items c.args.ins.now.len c.in-Some.input c.args.ins.now.ok.0 c.requires.some c.in-Some.ensures.value c.requires.one)

pub unreachable-requires-in_default-take : goal.unreachable-requires-in_default-take
unreachable-requires-in_default-take c =
    child-one c.args.outs.now.items c.args.child c.args.ins.now.items c.args.ins.now.len c.in-Some.input c.args.ins.now.ok.0 c.requires.some c.in-Some.ensures.value c.requires.one
    c.index_mut.result.now _ c.index_mut.ensures.value (sym c.in_default-take.is ∙ c.take.ensures.value)

pub settle_ends-requires : goal.settle_ends-requires
settle_ends-requires c =
    child-one c.args.outs.now.items c.args.child c.args.ins.now.items c.args.ins.now.len c.in-Some.input c.args.ins.now.ok.0 c.requires.some c.in-Some.ensures.value c.requires.one
    c.index_mut.result.now _ c.index_mut.ensures.value (sym c.in-Some-take.is ∙ c.take.ensures.value)
