use Rattle.std.proofs.Common.{◌≡◌, ℕ, List, [], get_or, slice_set, refl, ap, sym, subst, ◌∙◌}
use Rattle.network_core.specs.declared.node.Node.{Node}
use Rattle.stage_kinds.specs.Gathers.{IsGathered}
use Rattle.stage_kinds.specs.Held.{held_by}
use Rattle.stage_runs.specs.Parts.{IsGatheredAt, AreSameOrLater}
use Rattle.stage_runs.proofs.Gathered.{gathered-leaf, new-leaf, here, stand-in-held, emptied-later, made-later, made-there}
use Rattle.stage_runs.proofs.parts.gather_at.Goals as goal

-- the work that was taken is that of the node
taken : {W : Type 0} (nodes : List (Node W)) (at : ℕ) (n m : Node W) (w : W) → n ≡ get_or nodes at n → m ≡ get_or nodes at n → w ≡ m.work → w ≡ n.work
taken nodes at n m w was is e = e ∙ ap (λ (x : Node _). x.work) (is ∙ sym was)

pub returns-in_err-gather-clause-later : goal.returns-in_err-gather-clause-later
returns-in_err-gather-clause-later g c =
    let n = c.index-nodes-at.result in
    let empty = c.stand_in-empty in
    subst (λ x. AreSameOrLater g.S.Source g.K.Sink g.P.PlugFilter g.Q.PlugTally c.args.nodes.now (slice_set c.args.nodes.now c.args.at x)) (sym c.replace.ensures.after)
    (emptied-later g.S.Source g.K.Sink g.P.PlugFilter g.Q.PlugTally c.args.nodes.now c.args.at c.requires.inside n c.index-nodes-at.is empty.result empty.ensures.leaf
    (c.requires.collects n (here g.S.Source g.K.Sink g.P.PlugFilter g.Q.PlugTally c.args.nodes.now c.args.at c.requires.inside n c.index-nodes-at.is empty.result empty.ensures.leaf)))

pub new-made-requires-clause-leaf : goal.new-made-requires-clause-leaf
new-made-requires-clause-leaf g c =
    let n = c.index-nodes-at.result in
    let same = taken c.args.nodes.now c.args.at n c.replace.result c.into_work-work.result c.index-nodes-at.is c.replace.ensures.value c.into_work-work.ensures in
    let empty = c.stand_in-empty in
    let collects = c.requires.collects n (here g.S.Source g.K.Sink g.P.PlugFilter g.Q.PlugTally c.args.nodes.now c.args.at c.requires.inside n c.index-nodes-at.is empty.result empty.ensures.leaf) in
    (λ l. refl, λ z. gathered-leaf n.work c.in_ok-gather.field-0 collects (subst (λ v. IsGathered v c.in_ok-gather.field-0) same c.in_ok-gather.ensures.made))

pub let_go-requires : goal.let_go-requires
let_go-requires g c =
    let empty = c.stand_in-empty in
    let d = c.index-nodes-at-2.result in
    ap held_by c.into_work.ensures ∙ stand-in-held g.S.Source g.K.Sink g.P.PlugFilter g.Q.PlugTally c.args.nodes.now c.args.at c.requires.inside c.index-nodes-at.result c.index-nodes-at.is empty.result empty.ensures.leaf
    c.replace-2.result d (c.replace-2.ensures.value ∙ ap (λ x. get_or (slice_set c.args.nodes.now c.args.at x) c.args.at d) c.replace.ensures.after)

pub returns-clause-later : goal.returns-clause-later
returns-clause-later g c =
    let s = g.S.Source in
    let k = g.K.Sink in
    let fs = g.P.PlugFilter in
    let ts = g.Q.PlugTally in
    let nodes = c.args.nodes.now in
    let n = c.index-nodes-at.result in
    let empty = c.stand_in-empty in
    let same = taken nodes c.args.at n c.replace.result c.into_work-work.result c.index-nodes-at.is c.replace.ensures.value c.into_work-work.ensures in
    let collects = c.requires.collects n (here s k fs ts nodes c.args.at c.requires.inside n c.index-nodes-at.is empty.result empty.ensures.leaf) in
    let made = c.in_ok-gather.ensures in
    subst (λ x. AreSameOrLater s k fs ts nodes (slice_set (slice_set nodes c.args.at x) c.args.at c.replace-2.new.dest)) (sym c.replace.ensures.after)
    (subst (λ x. AreSameOrLater s k fs ts nodes (slice_set (slice_set nodes c.args.at empty.result) c.args.at x)) (sym c.replace-2.ensures.after)
    (made-later s k fs ts nodes c.args.at c.requires.inside n c.index-nodes-at.is empty.result empty.ensures.leaf c.new-made.result
    (new-leaf s k fs ts c.in_ok-gather.field-0 n.work c.new-made.result collects c.new-made.ensures.work (c.new-made.ensures.fresh [] refl) (made.device ∙ ap held_by same) (subst (λ v. IsGathered v c.in_ok-gather.field-0) same made.made)) collects))

pub returns-clause-gathered : goal.returns-clause-gathered
returns-clause-gathered g c =
    let s = g.S.Source in
    let k = g.K.Sink in
    let fs = g.P.PlugFilter in
    let ts = g.Q.PlugTally in
    let nodes = c.args.nodes.now in
    let n = c.index-nodes-at.result in
    let empty = c.stand_in-empty in
    let same = taken nodes c.args.at n c.replace.result c.into_work-work.result c.index-nodes-at.is c.replace.ensures.value c.into_work-work.ensures in
    let collects = c.requires.collects n (here s k fs ts nodes c.args.at c.requires.inside n c.index-nodes-at.is empty.result empty.ensures.leaf) in
    let made = c.in_ok-gather.ensures in
    let gathered = subst (λ v. IsGathered v c.in_ok-gather.field-0) same made.made in
    subst (λ x. IsGatheredAt s k fs ts c.args.at nodes (slice_set (slice_set nodes c.args.at x) c.args.at c.replace-2.new.dest)) (sym c.replace.ensures.after)
    (subst (λ x. IsGatheredAt s k fs ts c.args.at nodes (slice_set (slice_set nodes c.args.at empty.result) c.args.at x)) (sym c.replace-2.ensures.after)
    (made-there s k fs ts nodes c.args.at c.requires.inside n c.index-nodes-at.is empty.result empty.ensures.leaf c.new-made.result
    (new-leaf s k fs ts c.in_ok-gather.field-0 n.work c.new-made.result collects c.new-made.ensures.work (c.new-made.ensures.fresh [] refl) (made.device ∙ ap held_by same) gathered)
    (subst (IsGathered n.work) (sym c.new-made.ensures.work) gathered)))
