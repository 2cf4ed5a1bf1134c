use Rattle.std.proofs.Common.{◌≡◌, ◌<◌, ◌-◌, ℕ, length, Some, ap, subst, sym, ◌∙◌, arith}
use Rattle.std.specs.Prelude.{slice_get, slice_set}
use Rattle.std.proofs.lemmas.Option.{slice_get-get_or}
use Rattle.circular_buffer.proofs.Places.{slice_get-set_other}
use Rattle.network_theory.specs.Net as net
use Rattle.network_theory.specs.Forest.{children}
use Rattle.network_theory.specs.History.{points_in_step}
use Rattle.network_core.specs.Holding.{HoldsMore}
use Rattle.network_core.specs.Nets.{net_with, choice_of}
use Rattle.network_core.specs.Wires.{queue_at, IsWired}
use Rattle.network_core.proofs.Stepped.{stepped, outcome, taken-is, child-reads, wired-after, obeys-at, holds-at, written}
use Rattle.network_core.proofs.net.Net.step.Goals as goal

pub turn_among-requires-clause-more : goal.turn_among-requires-clause-more
turn_among-requires-clause-more g c = λ k e.
    let there = slice_get-get_or c.args.self.now.nodes.items c.args.i c.index_mut-node.result.now c.requires ∙ ap Some (sym c.index_mut-node.ensures.value) in
    child-reads c.args.self.now.nodes.items c.args.self.now.ins c.args.i c.index_mut-node.result.now c.current_child-child.result k c.current_child-child.ensures there e

pub invariant_of-self : goal.invariant_of-self
invariant_of-self g c =
    let there = slice_get-get_or c.args.self.now.nodes.items c.args.i c.index_mut-node.result.now c.requires ∙ ap Some (sym c.index_mut-node.ensures.value) in
    let value = c.as_mut_slice.ensures.value in
    let long : length c.turn_among.new.edges ≡ length c.args.self.now.edges.items = c.turn_among.auto.edges ∙ ap length value in
    let list = written c.args.self.now.edges.len c.args.self.now.edges.items c.turn_among.new.edges (sym c.as_mut_slice.ensures.len ∙ ap length c.as_mut_slice.ensures.value) long in
    record {
      wired = subst (λ q. IsWired (slice_set c.args.self.now.nodes.items c.args.i c.turn_among.new.node) c.args.self.now.ins q c.args.self.now.capacity) (sym list)
          (wired-after c.args.self.now.nodes.items c.args.self.now.ins c.args.self.now.edges.items c.turn_among.new.edges c.args.self.now.capacity c.args.i c.index_mut-node.result.now c.turn_among.new.node
          c.args.self.now.wired c.requires there c.turn_among.ensures.obeys.calm.inputs long (λ k. c.turn_among.ensures.rooms k ∙ ap (λ q. (queue_at q k).capacity) value));
    }

pub returns-clause-step : goal.returns-clause-step
returns-clause-step g c = λ beyond.
    let there = slice_get-get_or c.args.self.now.nodes.items c.args.i c.index_mut-node.result.now c.requires ∙ ap Some (sym c.index_mut-node.ensures.value) in
    let value = c.as_mut_slice.ensures.value in
    let w = c.args.self.now.wired in
    let t = c.turn_among.ensures in
    let long : length c.turn_among.new.edges ≡ length c.args.self.now.edges.items = c.turn_among.auto.edges ∙ ap length value in
    let list = written c.args.self.now.edges.len c.args.self.now.edges.items c.turn_among.new.edges (sym c.as_mut_slice.ensures.len ∙ ap length c.as_mut_slice.ensures.value) long in
    let s = stepped g.W.Work beyond c.args.self.now.nodes.items c.args.self.now.ins c.as_mut_slice.result.now c.turn_among.new.edges c.args.self.now.capacity c.args.i c.index_mut-node.result.now c.turn_among.new.node c.current_child-child.result c.turn_among.result
    c.requires there c.current_child-child.ensures (w.inputs c.args.i c.index_mut-node.result.now there)
    (let l = ap length value in let e = w.edges in let r = c.requires in omega (arith, l, e, r))
    (λ k h. ap (λ q. (queue_at q k).capacity) value ∙ w.rooms k (subst (λ (z : ℕ). k < z) (ap length value) h))
    (t.row (children c.args.self.now.ins c.args.i)) t.above t.left t.others in
    let root : length c.as_mut_slice.result.now ≡ length c.args.self.now.nodes.items - 1 = (let l = ap length value in let e = w.edges in omega (arith, l, e)) in
    ap (net_with g.W.Work beyond (slice_set c.args.self.now.nodes.items c.args.i c.turn_among.new.node) c.args.self.now.ins) list
    ∙ s
    ∙ ap (λ q. net.step (net_with g.W.Work beyond c.args.self.now.nodes.items c.args.self.now.ins q) (length c.as_mut_slice.result.now) c.args.self.now.capacity c.args.i (choice_of g.W.Work (slice_get c.args.self.now.nodes.items c.args.i) (slice_get (slice_set c.args.self.now.nodes.items c.args.i c.turn_among.new.node) c.args.i))) value
    ∙ ap (λ r. net.step (net_with g.W.Work beyond c.args.self.now.nodes.items c.args.self.now.ins c.args.self.now.edges.items) r c.args.self.now.capacity c.args.i (choice_of g.W.Work (slice_get c.args.self.now.nodes.items c.args.i) (slice_get (slice_set c.args.self.now.nodes.items c.args.i c.turn_among.new.node) c.args.i))) root

pub returns-clause-turned : goal.returns-clause-turned
returns-clause-turned g c = λ beyond.
    let there = slice_get-get_or c.args.self.now.nodes.items c.args.i c.index_mut-node.result.now c.requires ∙ ap Some (sym c.index_mut-node.ensures.value) in
    let value = c.as_mut_slice.ensures.value in
    let w = c.args.self.now.wired in
    let t = c.turn_among.ensures in
    let s = outcome g.W.Work beyond c.args.self.now.nodes.items c.args.self.now.ins c.as_mut_slice.result.now c.turn_among.new.edges c.args.self.now.capacity c.args.i c.index_mut-node.result.now c.turn_among.new.node c.current_child-child.result c.turn_among.result
    c.requires there c.current_child-child.ensures (w.inputs c.args.i c.index_mut-node.result.now there)
    (let l = ap length value in let e = w.edges in let r = c.requires in omega (arith, l, e, r))
    (λ k h. ap (λ q. (queue_at q k).capacity) value ∙ w.rooms k (subst (λ (z : ℕ). k < z) (ap length value) h))
    (t.row (children c.args.self.now.ins c.args.i)) t.above t.left t.others in
    let root : length c.as_mut_slice.result.now ≡ length c.args.self.now.nodes.items - 1 = (let l = ap length value in let e = w.edges in omega (arith, l, e)) in
    ap (λ (o : net.Outcome _ _ _). o.turned) s
    ∙ ap (λ q. (net.turn_at (net_with g.W.Work beyond c.args.self.now.nodes.items c.args.self.now.ins q) (length c.as_mut_slice.result.now) c.args.self.now.capacity c.args.i (choice_of g.W.Work (slice_get c.args.self.now.nodes.items c.args.i) (slice_get (slice_set c.args.self.now.nodes.items c.args.i c.turn_among.new.node) c.args.i))).turned) value
    ∙ ap (λ r. (net.turn_at (net_with g.W.Work beyond c.args.self.now.nodes.items c.args.self.now.ins c.args.self.now.edges.items) r c.args.self.now.capacity c.args.i (choice_of g.W.Work (slice_get c.args.self.now.nodes.items c.args.i) (slice_get (slice_set c.args.self.now.nodes.items c.args.i c.turn_among.new.node) c.args.i))).turned) root

pub returns-clause-obeys : goal.returns-clause-obeys
returns-clause-obeys g c =
    let there = slice_get-get_or c.args.self.now.nodes.items c.args.i c.index_mut-node.result.now c.requires ∙ ap Some (sym c.index_mut-node.ensures.value) in
    record {
      here = λ x y e f. obeys-at g.W.Work c.args.self.now.nodes.items c.args.i c.index_mut-node.result.now c.turn_among.new.node x y c.requires there c.turn_among.ensures.obeys e f;
      others = λ k ne. slice_get-set_other c.args.self.now.nodes.items c.args.i k c.turn_among.new.node ne;
      holds = λ beyond x y e f.
          let value = c.as_mut_slice.ensures.value in
          let w = c.args.self.now.wired in
          let t = c.turn_among.ensures in
          let s = taken-is g.W.Work beyond c.args.self.now.nodes.items c.args.self.now.ins c.as_mut_slice.result.now c.turn_among.new.edges c.args.self.now.capacity c.args.i c.index_mut-node.result.now c.turn_among.new.node c.current_child-child.result c.turn_among.result
          c.requires there c.current_child-child.ensures (w.inputs c.args.i c.index_mut-node.result.now there)
          (let l = ap length value in let e = w.edges in let r = c.requires in omega (arith, l, e, r))
          (λ k h. ap (λ q. (queue_at q k).capacity) value ∙ w.rooms k (subst (λ (z : ℕ). k < z) (ap length value) h))
          (t.row (children c.args.self.now.ins c.args.i)) t.above t.left t.others in
          let root : length c.as_mut_slice.result.now ≡ length c.args.self.now.nodes.items - 1 = (let l = ap length value in let e = w.edges in omega (arith, l, e)) in
          let taken = s
          ∙ ap (λ q. points_in_step (net_with g.W.Work beyond c.args.self.now.nodes.items c.args.self.now.ins q) (length c.as_mut_slice.result.now) c.args.self.now.capacity c.args.i (choice_of g.W.Work (slice_get c.args.self.now.nodes.items c.args.i) (slice_get (slice_set c.args.self.now.nodes.items c.args.i c.turn_among.new.node) c.args.i)) c.args.i) value
          ∙ ap (λ r. points_in_step (net_with g.W.Work beyond c.args.self.now.nodes.items c.args.self.now.ins c.args.self.now.edges.items) r c.args.self.now.capacity c.args.i (choice_of g.W.Work (slice_get c.args.self.now.nodes.items c.args.i) (slice_get (slice_set c.args.self.now.nodes.items c.args.i c.turn_among.new.node) c.args.i)) c.args.i) root in
          holds-at g.W.Work c.args.self.now.nodes.items c.args.i c.index_mut-node.result.now c.turn_among.new.node x y _ c.requires there (subst (HoldsMore g.W.Work c.index_mut-node.result.now c.turn_among.new.node) taken t.holds) e f;
    }
