use Rattle.std.proofs.Common.{◌+◌, ◌-◌, vec_len}
use Rattle.file_devices.proofs.Filling.{Beginning}
use Rattle.file_devices.proofs.whole.read_whole.Given as goal

abbrev pub invariant-loop-bytes : goal.invariant-loop-bytes
invariant-loop-bytes g l =
    let s = g.S.Source in
    Beginning (s.bytes l.initial.source) (s.bytes l.source) (s.faults l.initial.source) (s.faults l.source) (s.reached l.initial.source) (s.reached l.source) l.limit l.bytes.items

abbrev pub decreases-loop-bytes : goal.decreases-loop-bytes
decreases-loop-bytes g l = l.limit + 1 - vec_len l.bytes
