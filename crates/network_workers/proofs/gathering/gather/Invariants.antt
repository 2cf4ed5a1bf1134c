use Rattle.std.proofs.Common.{◌≤◌, length, vec_capacity}
use Rattle.network_workers.specs.Dealt.{AreWorkers}
use Rattle.network_workers.specs.Gathered.{AreTakenBack}
use Rattle.network_workers.proofs.gathering.gather.Given as goal

abbrev pub invariant-loop-place : goal.invariant-loop-place
invariant-loop-place g l = AreTakenBack g.W.Work g.turned.stop g.turned.start l.ins l.takers l.place l.deals.items l.nodes.items l.outs.items × AreWorkers (length l.deals.items) l.takers
    × (length g.turned.start.nodes ≤ vec_capacity l.nodes) × (length g.turned.start.nodes ≤ vec_capacity l.outs)

abbrev pub ghost-take_back : goal.ghost-take_back
ghost-take_back g a = g.turned
