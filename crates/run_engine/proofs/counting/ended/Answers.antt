use Rattle.std.proofs.Common.{rules, ◌≡◌, ◌<◌, ◌∷◌, ◌++◌, [], length, map, take, refl, ap, sym, subst, ◌∙◌, arith}
use Rattle.std.proofs.lemmas.List.{length-take-le, map-append, take_all}
use Rattle.std.proofs.lemmas.Option.{slice_get_read}
use Rattle.network_core.specs.declared.node.Node.{Node}
use Rattle.run_engine.specs.Counted.{AreCounted}
use Rattle.run_engine.proofs.Counted.{counted-more}
use Rattle.held_devices.proofs.Lists.{length-mapped, take-more}
use Rattle.run_engine.proofs.counting.ended.Goals as goal

pub loop-i-init : goal.loop-i-init
loop-i-init g c = record {
  counted = λ i s n lt at node. absurd (let none : length c.new-report.result.items ≡ 0 = ap length c.new-report.ensures in omega (arith, lt, none));
  count = search rules;
  faults = c.new-faults.ensures;
}

pub loop-i-preserved : goal.loop-i-preserved
loop-i-preserved g c =
    let nodes = c.args.nodes.now in
    let i = c.loop-i.i in
    let lt : i < length nodes = (let a = c.loop-i-test.true in omega (arith, a)) in
    let l = c.loop-i.invariant in
    let there = slice_get_read nodes (length nodes) i c.index-nodes-i-in-loop-i.result refl lt c.index-nodes-i-in-loop-i.is in
    let of = λ (n : Node _). n.fault in
    record {
      counted = subst (AreCounted g.Q.PlugTally c.args.stages.now nodes) (ap (λ x. c.loop-i.report.items ++ x ∷ []) (sym c.node_count.ensures) ∙ sym c.push.ensures.items)
          (counted-more g.Q.PlugTally c.args.stages.now nodes c.loop-i.report.items i c.index-stages-i.result c.index-nodes-i.result (sym l.count)
          (slice_get_read c.args.stages.now (length c.args.stages.now) i c.index-stages-i.result refl (let fit = c.requires.fit in omega (arith, lt, fit)) c.index-stages-i.is)
          (slice_get_read nodes (length nodes) i c.index-nodes-i.result refl lt c.index-nodes-i.is) l.counted);
      count = search rules;
      faults = c.push-in-loop-i.ensures.items ∙ ap (λ fs. fs ++ c.fault.result ∷ []) l.faults ∙ ap (λ f. map of (take i nodes) ++ f ∷ []) c.fault.ensures
          ∙ sym (map-append of (take i nodes) (c.index-nodes-i-in-loop-i.result ∷ [])) ∙ ap (map of) (sym (take-more nodes i c.index-nodes-i-in-loop-i.result there));
    }

pub push-requires-in-loop-i : goal.push-requires-in-loop-i
push-requires-in-loop-i g c =
    let few = c.requires.few in
    let fit = c.requires.fit in
    let t = c.loop-i-test.true in
    let l = ap length c.loop-i.invariant.faults in
    let n = length-mapped (λ (n : Node _). n.fault) (take c.loop-i.i c.args.nodes.now) in
    let k = length-take-le c.loop-i.i c.args.nodes.now (omega (arith, t)) in
    (omega arith, omega (arith, few, fit, t, l, n, k))

pub returns-clause-faults : goal.returns-clause-faults
returns-clause-faults g c =
    let nodes = c.args.nodes.now in
    c.loop-i.invariant.faults ∙ ap (map (λ (n : Node _). n.fault)) (take_all c.loop-i.i nodes (let t = c.loop-i-test.false in omega (arith, t)))

pub offset_bounds-stages-i : goal.offset_bounds-stages-i
offset_bounds-stages-i g c =
    let few = c.requires.few in
    let fit = c.requires.fit in
    let t = c.loop-i-test.true in
    let lt : c.loop-i.i < 64 = omega (arith, few, fit, t) in
    omega (arith, lt)
