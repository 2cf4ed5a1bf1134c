use Rattle.std.proofs.Common.{◌≡◌, length}
use Rattle.stream_filters.proofs.Judging.{Judging}
use Rattle.plug_stages.specs.Works.{IsSamePlug, plug_spot, plug_steps_in}
use Rattle.plug_stages.proofs.plug_work.PlugWork.judge_each.Given as goal

abbrev pub invariant-loop-at : goal.invariant-loop-at
invariant-loop-at g l =
    Judging (plug_steps_in g.P.PlugFilter l.initial.self) (plug_spot g.P.PlugFilter l.initial.self) l.initial.points (plug_spot g.P.PlugFilter l.self) l.at l.kept l.points
    × IsSamePlug g.P.PlugFilter l.initial.self l.self
    × (l.at-end ≡ length l.initial.points)
