use Rattle.std.proofs.Common.{◌≡◌, ℕ, ◌-◌, ◌++◌, List, [], ◌∷◌, map, length, Some, slice_get, refl, ap, sym, subst, ◌∙◌}
use Rattle.network_core.specs.declared.node.Node.{Node}
use Rattle.network_core.specs.Shown.{shown}
use Rattle.network_theory.specs.Forest.{IsForest, children}
use Rattle.network_theory.specs.Opening.{IsFresh}
use Rattle.stage_runs.specs.Works.{as_works}
use Rattle.stage_runs.specs.Parts.{AreLaterNodes, Ran, Stopped}
use Rattle.stage_runs.proofs.Answered.{on-ok}
use Rattle.stage_runs.proofs.Later.{only-one, alone-forest, alone-fresh}
use Rattle.stage_runs.proofs.nets.run_alone.Goals as goal

pub run_net-nodes-requires-clause-fresh : goal.run_net-nodes-requires-clause-fresh
run_net-nodes-requires-clause-fresh g c =
    let one : c.push_reserved-2.new.self.items ≡ c.args.node ∷ [] = c.push_reserved-2.ensures.items ∙ ap (λ (xs : List (Node _)). xs ++ c.args.node ∷ []) c.in-Ok-with_capacity.ensures.items in
    let ins : c.new-2.result ≡ [] ∷ [] = c.new-2.ensures ∙ ap (map (λ v. v.items)) (c.push_reserved.ensures.items ∙ ap (λ xs. xs ++ c.new.result ∷ []) c.in-Ok.ensures.items) ∙ ap (λ xs. xs ∷ []) c.new.ensures.items in
    subst (λ xss. (i : ℕ) (n : Node _) → slice_get c.push_reserved-2.new.self.items i ≡ Some n → IsFresh (shown (as_works g.S.Source g.K.Sink g.P.PlugFilter g.Q.PlugTally) (children xss i) n)) (sym ins)
    (subst (λ (ns : List (Node _)). (i : ℕ) (n : Node _) → slice_get ns i ≡ Some n → IsFresh (shown (as_works g.S.Source g.K.Sink g.P.PlugFilter g.Q.PlugTally) (children ([] ∷ []) i) n)) (sym one)
    (alone-fresh g.S.Source g.K.Sink g.P.PlugFilter g.Q.PlugTally c.args.node c.requires.leaf))

pub run_net-nodes-requires-clause-forest : goal.run_net-nodes-requires-clause-forest
run_net-nodes-requires-clause-forest g c =
    let one : c.push_reserved-2.new.self.items ≡ c.args.node ∷ [] = c.push_reserved-2.ensures.items ∙ ap (λ (xs : List (Node _)). xs ++ c.args.node ∷ []) c.in-Ok-with_capacity.ensures.items in
    let ins : c.new-2.result ≡ [] ∷ [] = c.new-2.ensures ∙ ap (map (λ v. v.items)) (c.push_reserved.ensures.items ∙ ap (λ xs. xs ++ c.new.result ∷ []) c.in-Ok.ensures.items) ∙ ap (λ xs. xs ∷ []) c.new.ensures.items in
    subst (λ xss. IsForest xss (length c.push_reserved-2.new.self.items - 1)) (sym ins) (subst (λ (ns : List (Node _)). IsForest ([] ∷ []) (length ns - 1)) (sym one) alone-forest)

pub run_net-nodes-requires-clause-edges : goal.run_net-nodes-requires-clause-edges
run_net-nodes-requires-clause-edges g c =
    let one : c.push_reserved-2.new.self.items ≡ c.args.node ∷ [] = c.push_reserved-2.ensures.items ∙ ap (λ (xs : List (Node _)). xs ++ c.args.node ∷ []) c.in-Ok-with_capacity.ensures.items in
    (c.args.queue, subst (λ n. g.T.Scheduler.fits n c.args.queue c.in-Ok-edges.edges) (sym (ap (λ (ns : List (Node _)). length ns) one)) c.in-Ok-edges.ensures)

pub returns-clause-later : goal.returns-clause-later
returns-clause-later g c =
    let one : c.push_reserved-2.new.self.items ≡ c.args.node ∷ [] = c.push_reserved-2.ensures.items ∙ ap (λ (xs : List (Node _)). xs ++ c.args.node ∷ []) c.in-Ok-with_capacity.ensures.items in
    let size = ap (λ (ns : List (Node _)). length ns) one in
    let back : c.run_net-nodes.result.nodes.items ≡ c.in-Some.node ∷ [] = only-one c.pop.new.self.items c.run_net-nodes.result.nodes.items c.in-Some.node c.in-Some.ensures.items (c.run_net-nodes.ensures.later.count ∙ size) in
    let later = subst (λ (ns : List (Node _)). AreLaterNodes g.S.Source g.K.Sink g.P.PlugFilter g.Q.PlugTally (c.args.node ∷ []) ns) back (subst (λ (ns : List (Node _)). AreLaterNodes g.S.Source g.K.Sink g.P.PlugFilter g.Q.PlugTally ns c.run_net-nodes.result.nodes.items) one c.run_net-nodes.ensures.later) in
    later.each 0 c.args.node c.in-Some.node refl refl

pub returns-clause-ran : goal.returns-clause-ran
returns-clause-ran g c =
    let one : c.push_reserved-2.new.self.items ≡ c.args.node ∷ [] = c.push_reserved-2.ensures.items ∙ ap (λ (xs : List (Node _)). xs ++ c.args.node ∷ []) c.in-Ok-with_capacity.ensures.items in
    let ins : c.new-2.result ≡ [] ∷ [] = c.new-2.ensures ∙ ap (map (λ v. v.items)) (c.push_reserved.ensures.items ∙ ap (λ xs. xs ++ c.new.result ∷ []) c.in-Ok.ensures.items) ∙ ap (λ xs. xs ∷ []) c.new.ensures.items in
    let size = ap (λ (ns : List (Node _)). length ns) one in
    let back : c.run_net-nodes.result.nodes.items ≡ c.in-Some.node ∷ [] = only-one c.pop.new.self.items c.run_net-nodes.result.nodes.items c.in-Some.node c.in-Some.ensures.items (c.run_net-nodes.ensures.later.count ∙ size) in
    let besides = g.T.Scheduler.besides c.args.queue in
    on-ok c.run_net-nodes.result.ended _ _ (λ ran.
    subst (λ (ns : List (Node _)). Ran g.S.Source g.K.Sink g.P.PlugFilter g.Q.PlugTally besides ([] ∷ []) (c.args.node ∷ []) ns) back
    (subst (λ (ns : List (Node _)). Ran g.S.Source g.K.Sink g.P.PlugFilter g.Q.PlugTally besides ([] ∷ []) ns c.run_net-nodes.result.nodes.items) one
    (subst (λ xss. Ran g.S.Source g.K.Sink g.P.PlugFilter g.Q.PlugTally besides xss c.push_reserved-2.new.self.items c.run_net-nodes.result.nodes.items) ins
    (ran c.args.queue (subst (λ n. g.T.Scheduler.fits n c.args.queue c.in-Ok-edges.edges) (sym size) c.in-Ok-edges.ensures))))) c.run_net-nodes.ensures.ran

pub returns-clause-enough : goal.returns-clause-enough
returns-clause-enough g c =
    let one : c.push_reserved-2.new.self.items ≡ c.args.node ∷ [] = c.push_reserved-2.ensures.items ∙ ap (λ (xs : List (Node _)). xs ++ c.args.node ∷ []) c.in-Ok-with_capacity.ensures.items in
    let size = ap (λ (ns : List (Node _)). length ns) one in
    let back : c.run_net-nodes.result.nodes.items ≡ c.in-Some.node ∷ [] = only-one c.pop.new.self.items c.run_net-nodes.result.nodes.items c.in-Some.node c.in-Some.ensures.items (c.run_net-nodes.ensures.later.count ∙ size) in
    on-ok c.run_net-nodes.result.ended _ _ (λ enough. enough 0 c.in-Some.node (ap (λ (ns : List (Node _)). slice_get ns 0) back)) c.run_net-nodes.ensures.enough

pub returns-clause-stopped : goal.returns-clause-stopped
returns-clause-stopped g c = λ halted.
    let one : c.push_reserved-2.new.self.items ≡ c.args.node ∷ [] = c.push_reserved-2.ensures.items ∙ ap (λ (xs : List (Node _)). xs ++ c.args.node ∷ []) c.in-Ok-with_capacity.ensures.items in
    let ins : c.new-2.result ≡ [] ∷ [] = c.new-2.ensures ∙ ap (map (λ v. v.items)) (c.push_reserved.ensures.items ∙ ap (λ xs. xs ++ c.new.result ∷ []) c.in-Ok.ensures.items) ∙ ap (λ xs. xs ∷ []) c.new.ensures.items in
    let size = ap (λ (ns : List (Node _)). length ns) one in
    let back : c.run_net-nodes.result.nodes.items ≡ c.in-Some.node ∷ [] = only-one c.pop.new.self.items c.run_net-nodes.result.nodes.items c.in-Some.node c.in-Some.ensures.items (c.run_net-nodes.ensures.later.count ∙ size) in
    subst (λ (ns : List (Node _)). Stopped g.S.Source g.K.Sink g.P.PlugFilter g.Q.PlugTally (g.T.Scheduler.bounded c.args.scheduler.now) c.args.queue ([] ∷ []) (c.args.node ∷ []) ns) back
    (subst (λ (ns : List (Node _)). Stopped g.S.Source g.K.Sink g.P.PlugFilter g.Q.PlugTally (g.T.Scheduler.bounded c.args.scheduler.now) c.args.queue ([] ∷ []) ns c.run_net-nodes.result.nodes.items) one
    (subst (λ xss. Stopped g.S.Source g.K.Sink g.P.PlugFilter g.Q.PlugTally (g.T.Scheduler.bounded c.args.scheduler.now) c.args.queue xss c.push_reserved-2.new.self.items c.run_net-nodes.result.nodes.items) ins
    (c.run_net-nodes.ensures.stopped halted c.args.queue (subst (λ n. g.T.Scheduler.fits n c.args.queue c.in-Ok-edges.edges) (sym size) c.in-Ok-edges.ensures))))

pub returns-clause-enough_then : goal.returns-clause-enough_then
returns-clause-enough_then g c = λ halted.
    let one : c.push_reserved-2.new.self.items ≡ c.args.node ∷ [] = c.push_reserved-2.ensures.items ∙ ap (λ (xs : List (Node _)). xs ++ c.args.node ∷ []) c.in-Ok-with_capacity.ensures.items in
    let size = ap (λ (ns : List (Node _)). length ns) one in
    let back : c.run_net-nodes.result.nodes.items ≡ c.in-Some.node ∷ [] = only-one c.pop.new.self.items c.run_net-nodes.result.nodes.items c.in-Some.node c.in-Some.ensures.items (c.run_net-nodes.ensures.later.count ∙ size) in
    c.run_net-nodes.ensures.enough_then halted 0 c.in-Some.node (ap (λ (ns : List (Node _)). slice_get ns 0) back)
