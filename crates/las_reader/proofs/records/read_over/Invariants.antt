use Rattle.std.proofs.Common.{◌≡◌, ◌-◌, ◌≤◌, length, take}
use Rattle.arrayvec.specs.ArrayVec.{array_vec_len}
use Rattle.las_reader.proofs.Readings.{Reads}
use Rattle.las_reader.proofs.records.read_over.Given as goal

abbrev pub invariant-loop-done : goal.invariant-loop-done
invariant-loop-done g l = Reads l.header l.fields l.given l.most (g.S.Source.bytes l.initial.source) (g.S.Source.bytes l.source) (g.S.Source.faults l.initial.source) (g.S.Source.faults l.source)
    (g.S.Source.reached l.initial.source) (g.S.Source.reached l.source) (take l.done l.into.items) l.done × (length l.buffer ≡ length l.initial.buffer) × (l.done ≤ array_vec_len l.into)

abbrev pub decreases-loop-done : goal.decreases-loop-done
decreases-loop-done g l = l.most - l.done
