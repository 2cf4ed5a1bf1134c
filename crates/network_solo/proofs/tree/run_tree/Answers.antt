use Rattle.std.proofs.Common.{ℕ, subst, sym}
use Rattle.network_core.specs.Nets.{ins_of, nodes_of}
use Rattle.network_solo.specs.Ahead.{IsReadAhead}
use Rattle.network_solo.specs.Runs.{IsRanOver}
use Rattle.network_solo.specs.Stopping.{CameToEnd}
use Rattle.network_solo.proofs.tree.run_tree.Goals as goal

pub returns-clause-over : goal.returns-clause-over
returns-clause-over g c = λ came.
    let new = c.over-net.ensures.nodes in
    let ended = nodes_of c.ran.result in
    let over = c.ran.ensures.over (subst (λ nodes. CameToEnd g.W.Work c.args.stop nodes) c.into_nodes.ensures came) in
    subst (λ nodes. IsRanOver g.W.Work c.args.ins c.args.queues.capacity c.args.nodes nodes) (sym c.into_nodes.ensures)
    (subst (λ nodes. IsRanOver g.W.Work c.args.ins c.args.queues.capacity nodes ended) new.0
    (subst (λ ins. IsRanOver g.W.Work ins c.args.queues.capacity (nodes_of c.over-net.result) ended) new.1
    (subst (λ (capacity : ℕ). IsRanOver g.W.Work (ins_of c.over-net.result) capacity (nodes_of c.over-net.result) ended) new.2 over)))

pub returns-clause-ahead : goal.returns-clause-ahead
returns-clause-ahead g c = λ first.
    let new = c.over-net.ensures.nodes in
    let ended = nodes_of c.ran.result in
    subst (λ nodes. IsReadAhead g.W.Work c.args.ins c.args.queues.capacity c.args.nodes nodes) (sym c.into_nodes.ensures)
    (subst (λ nodes. IsReadAhead g.W.Work c.args.ins c.args.queues.capacity nodes ended) new.0
    (subst (λ ins. IsReadAhead g.W.Work ins c.args.queues.capacity (nodes_of c.over-net.result) ended) new.1
    (subst (λ (capacity : ℕ). IsReadAhead g.W.Work (ins_of c.over-net.result) capacity (nodes_of c.over-net.result) ended) new.2 (c.ran.ensures.ahead first))))
