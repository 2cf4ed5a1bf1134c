use Rattle.std.proofs.Common.{◌≡◌, ◌-◌, length, vec_capacity}
use Rattle.network_workers.proofs.LastEnds.{AreSettled}
use Rattle.network_workers.proofs.gathering.settle_inputs.Given as goal

abbrev pub invariant-loop-input : goal.invariant-loop-input
invariant-loop-input l = AreSettled l.fn.outs.items l.children (length l.fn.ins.items - length l.children) l.fn.ins.items l.input l.ins.items l.outs.items × (vec_capacity l.outs ≡ vec_capacity l.fn.outs)
