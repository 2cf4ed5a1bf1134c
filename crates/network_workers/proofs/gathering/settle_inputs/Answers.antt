use Rattle.std.proofs.Common.{◌-◌, length, ◌∙◌, arith}
use Rattle.network_workers.proofs.LastEnds.{one-left, settled-next}
use Rattle.network_workers.proofs.gathering.settle_inputs.Goals as goal

pub settle_last-requires-clause-one : goal.settle_last-requires-clause-one
settle_last-requires-clause-one c =
    one-left c.args.outs.now.items c.args.children.now (length c.args.ins.now.items - length c.args.children.now) c.args.ins.now.items (let r = c.requires.room in omega (arith, r))
    c.loop-input.input (c.loop-input.input - 1) c.loop-input.ins.items c.loop-input.outs.items c.requires.once c.loop-input.invariant.0
    (let t = c.loop-input-test.true in omega (arith, t)) (let t = c.loop-input-test.true in let b = c.loop-input.auto.input in omega (arith, t, b)) c.requires.one

pub loop-input-preserved : goal.loop-input-preserved
loop-input-preserved c = (
  settled-next c.args.outs.now.items c.args.children.now (length c.args.ins.now.items - length c.args.children.now) c.args.ins.now.items (let r = c.requires.room in omega (arith, r))
      c.loop-input.input (c.loop-input.input - 1) c.loop-input.ins.items c.loop-input.outs.items c.requires.once c.loop-input.invariant.0
      (let t = c.loop-input-test.true in omega (arith, t)) (let t = c.loop-input-test.true in let b = c.loop-input.auto.input in omega (arith, t, b))
      c.settle_last.new.ins.items c.settle_last.new.outs.items c.settle_last.ensures.ins c.settle_last.ensures.outs c.settle_last.ensures.settled,
  c.settle_last.ensures.capacity ∙ c.loop-input.invariant.1,
)
