use Rattle.std.proofs.Common.{◌-◌, ◌∙◌, sym, ap, subst, length, replicate, [], arith}
use Rattle.circular_buffer.specs.Buffer.{buffer}
use Rattle.cloud_points.specs.declared.item.Item.{Item}
use Rattle.network_theory.specs.Forest.{IsForest}
use Rattle.network_theory.specs.Opening.{IsOpening}
use Rattle.network_core.specs.Nets.{net_with}
use Rattle.network_core.specs.Wires.{IsWired}
use Rattle.network_core.proofs.Opened.{wired-new, opening-new}
use Rattle.network_core.proofs.net.Net.over.Goals as goal

pub invariant_of-result : goal.invariant_of-result
invariant_of-result g c =
    let queues = c.args.queues in
    let below = c.requires.queues in
    let edges = queues.empty ∙ ap (λ k. replicate k (buffer {X = Item} [] queues.capacity)) (omega (arith, below)) in
    record {
      wired = subst (λ ns. IsWired ns c.args.ins queues.edges.items queues.capacity) (sym c.nodes.view_is)
          (wired-new g.W.Work c.args.nodes c.args.ins queues.edges.items queues.capacity c.requires.some c.requires.most c.requires.fresh c.requires.forest edges);
    }

pub returns-clause-new : goal.returns-clause-new
returns-clause-new g c =
    let queues = c.args.queues in
    let below = c.requires.queues in
    let edges = queues.empty ∙ ap (λ k. replicate k (buffer {X = Item} [] queues.capacity)) (omega (arith, below)) in
    record {
      forest = subst (λ ns. IsForest c.args.ins (length ns - 1)) (sym c.nodes.view_is) c.requires.forest;
      room = queues.some;
      opening = λ beyond spent. subst (λ ns. IsOpening (net_with g.W.Work beyond ns c.args.ins queues.edges.items) (length ns - 1)) (sym c.nodes.view_is)
          (opening-new g.W.Work c.args.nodes c.args.ins queues.edges.items queues.capacity c.requires.some c.requires.most c.requires.fresh c.requires.forest edges beyond spent);
    }
