use Rattle.std.proofs.Common.{◌∷◌, [], length, slice_get, ap, ◌∙◌}
use Rattle.stage_kinds.specs.Held.{held_by}
use Rattle.stage_runs.proofs.Later.{last-of, first-of}
use Rattle.stage_runs.proofs.nets.let_go.Goals as goal

pub let_go-requires : goal.let_go-requires
let_go-requires g c = ap held_by c.into_work.ensures ∙ c.loop-node.invariant (length c.pop.new.self.items) c.in-Some.node
    (ap (λ ns. slice_get ns (length c.pop.new.self.items)) c.in-Some.ensures.items ∙ last-of c.pop.new.self.items c.in-Some.node)

pub loop-node-preserved : goal.loop-node-preserved
loop-node-preserved g c = λ i n e. c.loop-node.invariant i n
    (ap (λ ns. slice_get ns i) c.in-Some.ensures.items ∙ first-of c.pop.new.self.items (c.in-Some.node ∷ []) i n e)
