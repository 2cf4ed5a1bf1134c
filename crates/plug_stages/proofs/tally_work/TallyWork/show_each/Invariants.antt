use Rattle.std.proofs.Common.{◌≡◌, length}
use Rattle.stream_filters.proofs.Judging.{Judging}
use Rattle.plug_stages.specs.Works.{IsSameTally, tally_spot, tally_steps_in}
use Rattle.plug_stages.proofs.tally_work.TallyWork.show_each.Given as goal

abbrev pub invariant-loop-at : goal.invariant-loop-at
invariant-loop-at g l =
    Judging (tally_steps_in g.T.PlugTally l.initial.self) (tally_spot g.T.PlugTally l.initial.self) l.points (tally_spot g.T.PlugTally l.self) l.at l.at l.points
    × IsSameTally g.T.PlugTally l.initial.self l.self
    × (l.at-end ≡ length l.points)
