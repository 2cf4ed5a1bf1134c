use Rattle.std.proofs.Common.{◌<◌, false, [], ap, sym, ◌∙◌, length, arith}
use Rattle.std.proofs.lemmas.Bool.{eq-eqb}
use Rattle.circular_buffer.specs.Buffer.{Buffer}
use Rattle.cloud_points.specs.declared.item.Item.{Item}
use Rattle.cloud_points.specs.Bodies.{bodies}
use Rattle.network_theory.specs.Net as net
use Rattle.network_core.specs.Shown.{choice, shown, left}
use Rattle.network_core.specs.Wires.{queue_at}
use Rattle.network_core.proofs.Edges.{ne-eqb, queue-set_here, queue_there}
use Rattle.network_core.proofs.among.turn_childless.Goals as goal

pub returns-then-at-edges-clause-row : goal.returns-then-at-edges-clause-row
returns-then-at-edges-clause-row g c = λ ins.
    let q = queue_at c.args.edges.now c.args.at in
    c.turn_alone.ensures.row ins q.capacity (bodies q.items)
    ∙ ap (λ b. net.turn b (queue_at c.args.edges.now c.args.at).capacity (choice g.W.Work c.args.node.now c.turn_alone.new.self) (shown g.W.Work ins c.args.node.now) [] (bodies (queue_at c.args.edges.now c.args.at).items)) (sym (eq-eqb c.args.at (length c.args.edges.now) c.if-at-edges.true))

pub returns-clause-row : goal.returns-clause-row
returns-clause-row g c = λ ins.
    let lt : c.args.at < length c.args.edges.now = (let n = c.if-at-edges.false in let r = c.requires in omega (arith, n, r)) in
    let was = queue_there c.args.edges.now c.args.at c.index-edges-at.result lt in
    ap (λ (q : Buffer Item). left (shown g.W.Work ins c.turn_leaf.new.self) [] (bodies q.items) c.turn_leaf.result) (queue-set_here c.args.edges.now c.args.at c.turn_leaf.new.out lt)
    ∙ c.turn_leaf.ensures.row ins
    ∙ ap (λ (q : Buffer Item). net.turn false q.capacity (choice g.W.Work c.args.node.now c.turn_leaf.new.self) (shown g.W.Work ins c.args.node.now) [] (bodies q.items)) was
    ∙ ap (λ b. net.turn b (queue_at c.args.edges.now c.args.at).capacity (choice g.W.Work c.args.node.now c.turn_leaf.new.self) (shown g.W.Work ins c.args.node.now) [] (bodies (queue_at c.args.edges.now c.args.at).items)) (sym (ne-eqb c.args.at (length c.args.edges.now) c.if-at-edges.false))
