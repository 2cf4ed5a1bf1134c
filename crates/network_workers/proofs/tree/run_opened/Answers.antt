use Rattle.std.proofs.Common.{◌≡◌, ◌<◌, ◌≤◌, ◌^◌, ◌∙◌, ℕ, List, length, subst, sym, ap, arith}
use Rattle.std.specs.Prelude.{vec_capacity}
use Rattle.network_core.specs.declared.node.Node.{Node}
use Rattle.network_solo.specs.Trees.{AreFresh}
use Rattle.network_workers.specs.Dealt.{AreWorkers, dealt, places, HandsCarry}
use Rattle.network_workers.specs.Gathered.{IsStart}
use Rattle.network_workers.specs.RoomParts.{nodes_in, outs_of, inns_of, workers_in, takers_in}
use Rattle.network_workers.specs.Stopping.{DealsOver}
use Rattle.network_workers.proofs.AllBack.{hands-on}
use Rattle.network_workers.proofs.tree.run_opened.Goals as goal

pub deal-deals-requires-clause-fresh : goal.deal-deals-requires-clause-fresh
deal-deals-requires-clause-fresh g c =
    let tree : IsStart g.W.Work c.args.ins.now g.turned.start = assumption c.requires in
    let nodes : c.args.nodes ≡ g.turned.start.nodes = assumption c.requires in
    subst (AreFresh g.W.Work c.args.ins.now) (sym nodes) tree.fresh

pub gather-requires : goal.gather-requires
gather-requires g c κs within =
    let tree : IsStart g.W.Work c.args.ins.now g.turned.start = assumption c.requires in
    let nodes : c.args.nodes ≡ g.turned.start.nodes = assumption c.requires in
    let count : nodes_in c.args.room ≡ length g.turned.start.nodes = assumption c.requires in
    let outs : outs_of c.args.room ≡ g.turned.start.outs = assumption c.requires in
    let inns : inns_of c.args.room ≡ g.turned.start.inns = assumption c.requires in
    let few : length g.turned.start.nodes ≤ 64 = assumption c.requires in
    let same : length c.args.nodes ≡ length g.turned.start.nodes = ap (λ (xs : List (Node g.row.W.Denot)). length xs) nodes in
    let workers : length c.run_deals.new.deals.items ≡ workers_in c.args.room = c.run_deals.ensures.carries.len ∙ c.deal-deals.ensures.workers.0 in
    let goes : c.as_slice.result.now ≡ takers_in c.args.room = c.as_slice.ensures.value ∙ c.deal-deals.ensures.takers in
    let all : length c.as_slice.result.now ≡ length g.turned.start.nodes = ap (λ (xs : List ℕ). length xs) goes ∙ c.args.room.sound.takers.0 ∙ count in
    let below : AreWorkers (length c.run_deals.new.deals.items) c.as_slice.result.now =
    subst (λ n. AreWorkers n c.as_slice.result.now) (sym workers) (subst (AreWorkers (workers_in c.args.room)) (sym goes) c.args.room.sound.takers.1) in
    let hands : HandsCarry g.W.Work (dealt c.as_slice.result.now (length c.run_deals.new.deals.items) 0 (places 0 g.turned.start.nodes c.args.ins.now g.turned.start.outs g.turned.start.inns)) c.run_deals.new.deals.items =
    subst (λ n. HandsCarry g.W.Work (dealt c.as_slice.result.now n 0 (places 0 g.turned.start.nodes c.args.ins.now g.turned.start.outs g.turned.start.inns)) c.run_deals.new.deals.items) (sym workers)
    (subst (λ gs. HandsCarry g.W.Work (dealt gs (workers_in c.args.room) 0 (places 0 g.turned.start.nodes c.args.ins.now g.turned.start.outs g.turned.start.inns)) c.run_deals.new.deals.items) (sym goes)
    (subst (λ xs. HandsCarry g.W.Work (dealt (takers_in c.args.room) (workers_in c.args.room) 0 (places 0 g.turned.start.nodes c.args.ins.now g.turned.start.outs xs)) c.run_deals.new.deals.items) inns
    (subst (λ xs. HandsCarry g.W.Work (dealt (takers_in c.args.room) (workers_in c.args.room) 0 (places 0 g.turned.start.nodes c.args.ins.now xs (inns_of c.args.room))) c.run_deals.new.deals.items) outs
    (subst (λ xs. HandsCarry g.W.Work (dealt (takers_in c.args.room) (workers_in c.args.room) 0 (places 0 xs c.args.ins.now (outs_of c.args.room) (inns_of c.args.room))) c.run_deals.new.deals.items) nodes
    (hands-on g.W.Work _ _ _ c.deal-deals.ensures.dealt c.run_deals.ensures.carries))))) in
    let room : length c.as_slice.result.now ≤ vec_capacity c.deal-deals.result.nodes = (let r = c.deal-deals.ensures.nodes.1 in omega (arith, r, all, same)) in
    let ends : length c.as_slice.result.now ≤ vec_capacity c.deal-deals.result.outs = (let r = c.deal-deals.ensures.outs.1 in omega (arith, r, all, same)) in
    let small : length c.as_slice.result.now < 2 ^ 32 = omega (arith, all, few) in
    let stop : c.args.stop ≡ g.turned.stop = assumption c.requires in
    let over : DealsOver g.turned.stop c.run_deals.new.deals.items = subst (λ x. DealsOver x c.run_deals.new.deals.items) stop c.run_deals.ensures.over in
    (within.0, (within.1, (tree, (all, (small, (below, ((c.deal-deals.ensures.nodes.0, room), ((c.deal-deals.ensures.outs.0, ends), (hands, (c.run_deals.ensures.fit, over))))))))))
