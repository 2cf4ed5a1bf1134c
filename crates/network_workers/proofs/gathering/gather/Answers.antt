use Rattle.std.proofs.Common.{◌≡◌, ◌<◌, ◌≤◌, ◌^◌, length, vec_capacity, subst, sym, arith}
use Rattle.network_workers.specs.Crews.{HasRun}
use Rattle.network_workers.specs.Gathered.{IsStart, AreCarried}
use Rattle.network_workers.proofs.Joined.{carried-run}
use Rattle.network_workers.proofs.OverBack.{over-all}
use Rattle.network_workers.proofs.AllBack.{none-back, all-carried, deals-empty}
use Rattle.network_workers.proofs.gathering.gather.Goals as goal

pub loop-place-init : goal.loop-place-init
loop-place-init g c =
    let count : length c.args.takers.now ≡ length g.turned.start.nodes = assumption c.requires in
    let nodes : length c.args.takers.now ≤ vec_capacity c.args.nodes = assumption c.requires in
    let outs : length c.args.takers.now ≤ vec_capacity c.args.outs = assumption c.requires in (
      none-back g.W.Work g.turned.stop g.turned.start c.args.ins.now c.args.takers.now c.args.deals.items c.args.nodes.items c.args.outs.items
          (assumption c.requires) (assumption c.requires) (assumption c.requires) (assumption c.requires) (assumption c.requires),
      assumption c.requires,
      omega (arith, nodes, count),
      omega (arith, outs, count),
    )

pub end_deals-requires : goal.end_deals-requires
end_deals-requires g c =
    deals-empty g.W.Work g.turned.stop g.turned.start c.args.ins.now c.args.takers.now c.loop-place.deals.items c.loop-place.nodes.items c.loop-place.outs.items c.loop-place.place c.loop-place.invariant.0
    (let count : length c.args.takers.now ≡ length g.turned.start.nodes = assumption c.requires in let a = c.loop-place-test.false in let b = c.loop-place.auto.place-end in omega (arith, count, a, b))

pub returns : goal.returns
returns g c =
    let start = g.turned.start in
    let tree : IsStart g.W.Work c.args.ins.now start = assumption c.requires in
    let count : length c.args.takers.now ≡ length start.nodes = assumption c.requires in
    let few : length c.args.takers.now < 2 ^ 32 = assumption c.requires in
    let last : c.loop-place.place ≡ length start.nodes = (let a = c.loop-place-test.false in let b = c.loop-place.auto.place-end in omega (arith, count, a, b)) in
    let back = c.loop-place.invariant.0 in
    let all : AreCarried g.W.Work c.args.ins.now start.nodes c.loop-place.nodes.items =
    all-carried g.W.Work g.turned.stop start c.args.ins.now c.args.takers.now c.loop-place.deals.items c.loop-place.nodes.items c.loop-place.outs.items c.loop-place.place back last in
    let empty = deals-empty g.W.Work g.turned.stop start c.args.ins.now c.args.takers.now c.loop-place.deals.items c.loop-place.nodes.items c.loop-place.outs.items c.loop-place.place back last in
    subst (HasRun g.W.Work g.turned.stop start.nodes c.args.ins.now) (sym c.new.ensures)
    (carried-run g.W.Work c.args.ins.now start.nodes c.loop-place.nodes.items tree.some (omega (arith, count, few)) tree.fresh tree.forest all g.turned.stop
    (over-all g.W.Work g.turned.stop c.loop-place.deals.items c.loop-place.nodes.items empty back.over))
