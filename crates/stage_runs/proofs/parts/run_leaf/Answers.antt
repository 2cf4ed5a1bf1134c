use Rattle.std.proofs.Common.{[], ◌∷◌, get_or, slice_set, ap, sym, subst, ◌∙◌}
use Rattle.network_core.specs.declared.node.Node.{Node}
use Rattle.stage_kinds.specs.Held.{held_by}
use Rattle.stage_runs.specs.Parts.{IsLaterNode, IsLeaf, IsNewLeaf, AreSameOrLater, Ran, Stopped}
use Rattle.stage_runs.proofs.Answered.{both-ok, on-ok}
use Rattle.stage_runs.proofs.Gathered.{here, stand-in-held, lent-later, lent-became}
use Rattle.stage_runs.proofs.parts.run_leaf.Goals as goal

pub run_alone-node-requires-clause-leaf : goal.run_alone-node-requires-clause-leaf
run_alone-node-requires-clause-leaf g c =
    let n = c.index-nodes-at.result in
    subst (IsNewLeaf g.S.Source g.K.Sink g.P.PlugFilter g.Q.PlugTally) (sym (c.replace-node.ensures.value ∙ sym c.index-nodes-at.is))
    (c.requires.leaf n (here g.S.Source g.K.Sink g.P.PlugFilter g.Q.PlugTally c.args.nodes.now c.args.at c.requires.inside n c.index-nodes-at.is c.stand_in-empty.result c.stand_in-empty.ensures.leaf))

pub let_go-requires : goal.let_go-requires
let_go-requires g c =
    let d = c.index-nodes-at-2.result in
    ap held_by c.into_work.ensures ∙ stand-in-held g.S.Source g.K.Sink g.P.PlugFilter g.Q.PlugTally c.args.nodes.now c.args.at c.requires.inside c.index-nodes-at.result c.index-nodes-at.is c.stand_in-empty.result c.stand_in-empty.ensures.leaf
    c.replace.result d (c.replace.ensures.value ∙ ap (λ x. get_or (slice_set c.args.nodes.now c.args.at x) c.args.at d) c.replace-node.ensures.after)

pub returns-clause-later : goal.returns-clause-later
returns-clause-later g c =
    let nodes = c.args.nodes.now in
    let n = c.index-nodes-at.result in
    subst (λ x. AreSameOrLater g.S.Source g.K.Sink g.P.PlugFilter g.Q.PlugTally nodes (slice_set (slice_set nodes c.args.at x) c.args.at c.replace.new.dest)) (sym c.replace-node.ensures.after)
    (subst (λ x. AreSameOrLater g.S.Source g.K.Sink g.P.PlugFilter g.Q.PlugTally nodes (slice_set (slice_set nodes c.args.at c.stand_in-empty.result) c.args.at x)) (sym c.replace.ensures.after)
    (lent-later g.S.Source g.K.Sink g.P.PlugFilter g.Q.PlugTally nodes c.args.at c.requires.inside n c.index-nodes-at.is c.stand_in-empty.result c.stand_in-empty.ensures.leaf c.run_alone-node.result.node
    (subst (λ x. IsLaterNode g.S.Source g.K.Sink g.P.PlugFilter g.Q.PlugTally x c.run_alone-node.result.node) (c.replace-node.ensures.value ∙ sym c.index-nodes-at.is) c.run_alone-node.ensures.later)))

pub returns-clause-run : goal.returns-clause-run
returns-clause-run g c =
    let nodes = c.args.nodes.now in
    let n = c.index-nodes-at.result in
    let now = c.run_alone-node.result.node in
    let besides = g.T.Scheduler.besides c.args.sizes.queue in
    let became = Ran g.S.Source g.K.Sink g.P.PlugFilter g.Q.PlugTally besides ([] ∷ []) in
    on-ok c.run_alone-node.result.ended _ _ (λ x.
    subst (λ x. IsLeaf g.S.Source g.K.Sink g.P.PlugFilter g.Q.PlugTally became c.args.at nodes (slice_set (slice_set nodes c.args.at x) c.args.at c.replace.new.dest)) (sym c.replace-node.ensures.after)
    (subst (λ x. IsLeaf g.S.Source g.K.Sink g.P.PlugFilter g.Q.PlugTally became c.args.at nodes (slice_set (slice_set nodes c.args.at c.stand_in-empty.result) c.args.at x)) (sym c.replace.ensures.after)
    (lent-became g.S.Source g.K.Sink g.P.PlugFilter g.Q.PlugTally nodes c.args.at c.requires.inside n c.index-nodes-at.is c.stand_in-empty.result c.stand_in-empty.ensures.leaf now became
    (subst (λ (x : Node _). became (x ∷ []) (now ∷ [])) (c.replace-node.ensures.value ∙ sym c.index-nodes-at.is) x.0) x.1)))
    (both-ok c.run_alone-node.result.ended _ _ c.run_alone-node.ensures.ran c.run_alone-node.ensures.enough)

pub returns-clause-stopped : goal.returns-clause-stopped
returns-clause-stopped g c = λ halted.
    let nodes = c.args.nodes.now in
    let n = c.index-nodes-at.result in
    let now = c.run_alone-node.result.node in
    let became = Stopped g.S.Source g.K.Sink g.P.PlugFilter g.Q.PlugTally (g.T.Scheduler.bounded c.args.scheduler.now) c.args.sizes.queue ([] ∷ []) in
    subst (λ x. IsLeaf g.S.Source g.K.Sink g.P.PlugFilter g.Q.PlugTally became c.args.at nodes (slice_set (slice_set nodes c.args.at x) c.args.at c.replace.new.dest)) (sym c.replace-node.ensures.after)
    (subst (λ x. IsLeaf g.S.Source g.K.Sink g.P.PlugFilter g.Q.PlugTally became c.args.at nodes (slice_set (slice_set nodes c.args.at c.stand_in-empty.result) c.args.at x)) (sym c.replace.ensures.after)
    (lent-became g.S.Source g.K.Sink g.P.PlugFilter g.Q.PlugTally nodes c.args.at c.requires.inside n c.index-nodes-at.is c.stand_in-empty.result c.stand_in-empty.ensures.leaf now became
    (subst (λ (x : Node _). became (x ∷ []) (now ∷ [])) (c.replace-node.ensures.value ∙ sym c.index-nodes-at.is) (c.run_alone-node.ensures.stopped halted)) (c.run_alone-node.ensures.enough_then halted)))
