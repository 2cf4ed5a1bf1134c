use Rattle.std.proofs.Common.{length, ◌-◌}
use Rattle.file_devices.proofs.Filling.{Filling}
use Rattle.file_devices.proofs.reads.fill.Given as goal

abbrev pub invariant-loop-done : goal.invariant-loop-done
invariant-loop-done g l =
    let s = g.S.Source in
    Filling (s.bytes l.initial.source) (s.bytes l.source) (s.faults l.initial.source) (s.faults l.source) (s.reached l.initial.source) (s.reached l.source) l.at l.done l.initial.into l.into

abbrev pub decreases-loop-done : goal.decreases-loop-done
decreases-loop-done g l = length l.initial.into - l.done
