use Rattle.std.proofs.Common.{◌≡◌, ◌∙◌, ◌<◌, ◌≤◌, ap, arith, List, Option, length, refl, vec_capacity}
use Rattle.chunk_queue.specs.Ends.{OutSeen}
use Rattle.network_workers.specs.Dealt.{worker_at}
use Rattle.network_workers.specs.Gathered.{AreTakenBack}
use Rattle.network_workers.proofs.LastEnds.{length-without}
use Rattle.network_workers.proofs.PlaceBack.{seat-there, ends-there, children-once, edges-one, place-back}
use Rattle.network_workers.proofs.gathering.take_back.Goals as goal

pub take_seat-seat-requires-clause-some : goal.take_seat-seat-requires-clause-some
take_seat-seat-requires-clause-some g c =
    seat-there g.W.Work g.turned.stop g.turned.start c.args.ins.now c.args.takers.now (assumption c.requires) c.args.place (assumption c.requires) c.args.deals.now.items (assumption c.requires) c.args.nodes.now.items c.args.outs.now.items (assumption c.requires)
    (worker_at c.args.takers.now c.args.place) refl c.index_mut-deal.result.now c.index_mut-deal.ensures.value c.children.result.now c.children.ensures

pub take_seat-seat-requires-clause-room : goal.take_seat-seat-requires-clause-room
take_seat-seat-requires-clause-room g c =
    ends-there g.W.Work g.turned.stop g.turned.start c.args.ins.now c.args.takers.now (assumption c.requires) c.args.place (assumption c.requires) c.args.deals.now.items (assumption c.requires) c.args.nodes.now.items c.args.outs.now.items (assumption c.requires)
    (worker_at c.args.takers.now c.args.place) refl c.index_mut-deal.result.now c.index_mut-deal.ensures.value c.children.result.now c.children.ensures

pub take_seat-seat-requires-clause-once : goal.take_seat-seat-requires-clause-once
take_seat-seat-requires-clause-once g c =
    children-once g.W.Work g.turned.stop g.turned.start c.args.ins.now c.args.takers.now (assumption c.requires) c.args.place (assumption c.requires) c.args.deals.now.items (assumption c.requires) c.args.nodes.now.items c.args.outs.now.items (assumption c.requires)
    (worker_at c.args.takers.now c.args.place) refl c.index_mut-deal.result.now c.index_mut-deal.ensures.value c.children.result.now c.children.ensures

pub take_seat-seat-requires-clause-one : goal.take_seat-seat-requires-clause-one
take_seat-seat-requires-clause-one g c =
    edges-one g.W.Work g.turned.stop g.turned.start c.args.ins.now c.args.takers.now (assumption c.requires) c.args.place (assumption c.requires) c.args.deals.now.items (assumption c.requires) c.args.nodes.now.items c.args.outs.now.items (assumption c.requires)
    (worker_at c.args.takers.now c.args.place) refl c.index_mut-deal.result.now c.index_mut-deal.ensures.value c.children.result.now c.children.ensures

pub returns-clause-back : goal.returns-clause-back
returns-clause-back g c =
    place-back g.W.Work g.turned.stop g.turned.start c.args.ins.now c.args.takers.now (assumption c.requires) c.args.place (assumption c.requires) c.args.deals.now.items (assumption c.requires) c.args.nodes.now.items c.args.outs.now.items (assumption c.requires)
    (worker_at c.args.takers.now c.args.place) refl c.index_mut-deal.result.now c.index_mut-deal.ensures.value c.children.result.now c.children.ensures
    (record { seats = c.take_seat-seat.new.seats; ins = c.take_seat-seat.new.ins }) c.take_seat-seat.result c.push_reserved.new.self.items c.take_seat-seat.new.outs.items c.push_reserved-2.new.self.items
    c.take_seat-seat.ensures.seats c.take_seat-seat.ensures.ins c.take_seat-seat.ensures.settled c.take_seat-seat.ensures.outs c.push_reserved.ensures.items c.push_reserved-2.ensures.items

pub push_reserved-requires-2 : goal.push_reserved-requires-2
push_reserved-requires-2 g c =
    let left : length c.take_seat-seat.new.outs.items ≡ length c.args.outs.now.items =
    ap (λ (xs : List (Option OutSeen)). length xs) c.take_seat-seat.ensures.outs ∙ length-without c.args.outs.now.items c.children.result.now in
    let back : AreTakenBack g.W.Work g.turned.stop g.turned.start c.args.ins.now c.args.takers.now c.args.place c.args.deals.now.items c.args.nodes.now.items c.args.outs.now.items = assumption c.requires in
    let count = back.counts.1 in
    let size = c.take_seat-seat.new.outs.ok.0 in
    let room : length g.turned.start.nodes ≤ vec_capacity c.args.outs.now = assumption c.requires in
    let same = c.take_seat-seat.ensures.capacity in
    let inside : c.args.place < length g.turned.start.nodes = assumption c.requires in
    omega (arith, left, count, size, room, same, inside)
