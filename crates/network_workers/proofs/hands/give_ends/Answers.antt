use Rattle.std.proofs.Common.{refl, ◌∙◌, arith}
use Rattle.network_workers.proofs.Picked.{giving-nothing, giving-there, giving-next, giving-count, some-left}
use Rattle.network_workers.proofs.hands.give_ends.Goals as goal

pub loop-input-init : goal.loop-input-init
loop-input-init c = (giving-nothing c.args.seat c.args.inns.now.items c.args.ins.now.items, refl)

pub take_end-end-requires : goal.take_end-end-requires
take_end-end-requires c =
    giving-there c.args.seat c.args.inns.now.items c.args.ins.now.items c.args.children.now c.requires.there c.loop-input.input 0
    c.loop-input.inns.items c.loop-input.ins.items (let t = c.loop-input-test.true in let e = c.loop-input.auto.input-end in omega (arith, t, e))
    c.loop-input.invariant.0

pub push_reserved-requires : goal.push_reserved-requires
push_reserved-requires c =
    let count = giving-count c.args.seat c.args.inns.now.items c.args.ins.now.items c.args.children.now c.requires.there c.loop-input.input
    c.loop-input.inns.items c.loop-input.ins.items c.loop-input.invariant.0 in
    let some = some-left c.loop-input.inns.items _ c.take_end-end.result c.take_end-end.ensures.end in
    let len = c.loop-input.ins.ok.0 in
    let cap = c.loop-input.invariant.1 in
    let room = c.requires.room in omega (arith, count, some, len, cap, room)

pub loop-input-preserved : goal.loop-input-preserved
loop-input-preserved c = (
  giving-next c.args.seat c.args.inns.now.items c.args.ins.now.items c.args.children.now c.requires.there c.loop-input.input 0
      c.loop-input.inns.items c.loop-input.ins.items (let t = c.loop-input-test.true in let e = c.loop-input.auto.input-end in omega (arith, t, e))
      c.loop-input.invariant.0 c.take_end-end.new.inns.items c.push_reserved.new.self.items c.take_end-end.result
      c.take_end-end.ensures.end c.take_end-end.ensures.rest c.push_reserved.ensures.items,
  c.push_reserved.ensures.capacity ∙ c.loop-input.invariant.1,
)

pub returns-clause-room : goal.returns-clause-room
returns-clause-room c =
    let count = giving-count c.args.seat c.args.inns.now.items c.args.ins.now.items c.args.children.now c.requires.there c.loop-input.input
    c.loop-input.inns.items c.loop-input.ins.items c.loop-input.invariant.0 in
    let cap = c.loop-input.invariant.1 in
    let room = c.requires.room in omega (arith, count, cap, room)
