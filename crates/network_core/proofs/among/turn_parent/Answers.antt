use Rattle.std.proofs.Common.{◌≢◌, ◌<◌, ◌++◌, false, true, ap, subst, sym, ◌∙◌, length, arith}
use Rattle.std.specs.Prelude.{slice_set, slice_index_or}
use Rattle.std.proofs.lemmas.Bool.{eq-eqb}
use Rattle.circular_buffer.specs.Buffer.{Buffer}
use Rattle.cloud_points.specs.declared.item.Item.{Item}
use Rattle.cloud_points.specs.Bodies.{bodies}
use Rattle.network_theory.specs.Net as net
use Rattle.network_core.specs.Shown.{choice, shown, left, turned}
use Rattle.network_core.specs.Wires.{queue_at}
use Rattle.network_core.proofs.Edges.{ne-eqb, queue-set_here, queue-set_other, queue_there, joined-child, joined-here, was-child, was-here, joined-rooms}
use Rattle.network_theory.specs.History.{points_taken}
use Rattle.network_core.specs.Holding.{HoldsMore}
use Rattle.network_core.proofs.among.turn_parent.Goals as goal

pub returns-then-at-edges-clause-row : goal.returns-then-at-edges-clause-row
returns-then-at-edges-clause-row g c = λ ins.
    let es = c.args.edges.now in
    let lt : c.args.c < length c.args.edges.now = (let r = c.requires.child in let e = c.if-at-edges.true in omega (arith, r, e)) in
    let ne : c.args.at ≢ c.args.c = (λ z. let r = c.requires.child in omega (arith, r, z)) in
    let out = queue_at c.args.edges.now c.args.at in
    ap (λ (q : Buffer Item). left (shown g.W.Work ins c.turn_root.new.self) (bodies q.items) (bodies (queue_at (slice_set c.args.edges.now c.args.c c.turn_root.new.input) c.args.at).items) c.turn_root.result) (queue-set_here es c.args.c c.turn_root.new.input lt)
    ∙ ap (λ (q : Buffer Item). left (shown g.W.Work ins c.turn_root.new.self) (bodies c.turn_root.new.input.items) (bodies q.items) c.turn_root.result) (queue-set_other es c.args.c c.args.at c.turn_root.new.input ne)
    ∙ c.turn_root.ensures.row ins out.capacity (bodies out.items)
    ∙ ap (λ (q : Buffer Item). net.turn true (queue_at c.args.edges.now c.args.at).capacity (choice g.W.Work c.args.node.now c.turn_root.new.self) (shown g.W.Work ins c.args.node.now) (bodies q.items) (bodies (queue_at c.args.edges.now c.args.at).items)) (queue_there es c.args.c c.index-edges-c.result lt)
    ∙ ap (λ b. net.turn b (queue_at c.args.edges.now c.args.at).capacity (choice g.W.Work c.args.node.now c.turn_root.new.self) (shown g.W.Work ins c.args.node.now) (bodies (queue_at c.args.edges.now c.args.c).items) (bodies (queue_at c.args.edges.now c.args.at).items)) (sym (eq-eqb c.args.at (length c.args.edges.now) c.if-at-edges.true))

pub returns-clause-row : goal.returns-clause-row
returns-clause-row g c = λ ins.
    let s = c.split_at_mut-front.ensures in
    let lt : c.args.at < length c.args.edges.now = (let r = c.requires.within in let e = c.if-at-edges.false in omega (arith, r, e)) in
    let p = c.turn_inner.new.input in
    let q = c.turn_inner.new.out in
    let child = joined-child c.args.edges.now c.split_at_mut-front.result.0.now c.split_at_mut-front.result.1.now c.args.at c.args.c s.value s.front_len c.requires.child lt p q in
    let here = joined-here c.args.edges.now c.split_at_mut-front.result.0.now c.split_at_mut-front.result.1.now c.args.at c.args.c s.value s.front_len c.requires.child lt p q in
    let old_child = was-child c.args.edges.now c.split_at_mut-front.result.0.now c.split_at_mut-front.result.1.now c.args.at c.args.c s.value s.front_len c.requires.child lt p q c.index-front-c.result in
    let old_here = was-here c.args.edges.now c.split_at_mut-front.result.0.now c.split_at_mut-front.result.1.now c.args.at c.args.c s.value s.front_len c.requires.child lt p q c.index-back-0.result in
    ap (λ (x : Buffer Item). left (shown g.W.Work ins c.turn_inner.new.self) (bodies x.items) (bodies (queue_at (slice_set c.split_at_mut-front.result.0.now c.args.c c.turn_inner.new.input ++ slice_set c.split_at_mut-front.result.1.now 0 c.turn_inner.new.out) c.args.at).items) c.turn_inner.result) child
    ∙ ap (λ (x : Buffer Item). left (shown g.W.Work ins c.turn_inner.new.self) (bodies c.turn_inner.new.input.items) (bodies x.items) c.turn_inner.result) here
    ∙ c.turn_inner.ensures.row ins
    ∙ ap (λ (x : Buffer Item). net.turn false x.capacity (choice g.W.Work c.args.node.now c.turn_inner.new.self) (shown g.W.Work ins c.args.node.now) (bodies (slice_index_or c.split_at_mut-front.result.0.now c.args.c c.index-front-c.result).items) (bodies x.items)) old_here
    ∙ ap (λ (x : Buffer Item). net.turn false (queue_at c.args.edges.now c.args.at).capacity (choice g.W.Work c.args.node.now c.turn_inner.new.self) (shown g.W.Work ins c.args.node.now) (bodies x.items) (bodies (queue_at c.args.edges.now c.args.at).items)) old_child
    ∙ ap (λ b. net.turn b (queue_at c.args.edges.now c.args.at).capacity (choice g.W.Work c.args.node.now c.turn_inner.new.self) (shown g.W.Work ins c.args.node.now) (bodies (queue_at c.args.edges.now c.args.c).items) (bodies (queue_at c.args.edges.now c.args.at).items)) (sym (ne-eqb c.args.at (length c.args.edges.now) c.if-at-edges.false))

pub returns-clause-rooms : goal.returns-clause-rooms
returns-clause-rooms g c =
    let s = c.split_at_mut-front.ensures in
    let lt : c.args.at < length c.args.edges.now = (let r = c.requires.within in let e = c.if-at-edges.false in omega (arith, r, e)) in
    let p = c.turn_inner.new.input in
    let q = c.turn_inner.new.out in
    let old_child = was-child c.args.edges.now c.split_at_mut-front.result.0.now c.split_at_mut-front.result.1.now c.args.at c.args.c s.value s.front_len c.requires.child lt p q c.index-front-c.result in
    let old_here = was-here c.args.edges.now c.split_at_mut-front.result.0.now c.split_at_mut-front.result.1.now c.args.at c.args.c s.value s.front_len c.requires.child lt p q c.index-back-0.result in
    joined-rooms c.args.edges.now c.split_at_mut-front.result.0.now c.split_at_mut-front.result.1.now c.args.at c.args.c s.value s.front_len c.requires.child lt p q
    (c.turn_inner.ensures.room.0 ∙ ap (λ (x : Buffer Item). x.capacity) old_child) (c.turn_inner.ensures.room.1 ∙ ap (λ (x : Buffer Item). x.capacity) old_here)

pub returns-then-at-edges-clause-holds : goal.returns-then-at-edges-clause-holds
returns-then-at-edges-clause-holds g c =
    let lt : c.args.c < length c.args.edges.now = (let r = c.requires.child in let e = c.if-at-edges.true in omega (arith, r, e)) in
    subst (λ (q : Buffer Item). HoldsMore g.W.Work c.args.node.now c.turn_root.new.self (points_taken (turned c.turn_root.result) (bodies q.items))) (queue_there c.args.edges.now c.args.c c.index-edges-c.result lt) c.turn_root.ensures.holds

pub returns-clause-holds : goal.returns-clause-holds
returns-clause-holds g c =
    let s = c.split_at_mut-front.ensures in
    let lt : c.args.at < length c.args.edges.now = (let r = c.requires.within in let e = c.if-at-edges.false in omega (arith, r, e)) in
    let old_child = was-child c.args.edges.now c.split_at_mut-front.result.0.now c.split_at_mut-front.result.1.now c.args.at c.args.c s.value s.front_len c.requires.child lt c.turn_inner.new.input c.turn_inner.new.out c.index-front-c.result in
    subst (λ (q : Buffer Item). HoldsMore g.W.Work c.args.node.now c.turn_inner.new.self (points_taken (turned c.turn_inner.result) (bodies q.items))) old_child c.turn_inner.ensures.holds
