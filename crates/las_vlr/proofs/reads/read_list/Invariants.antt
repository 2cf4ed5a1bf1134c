use Rattle.las_vlr.proofs.Readings.{Reading}
use Rattle.las_vlr.proofs.reads.read_list.Given as goal

abbrev pub invariant-loop-number : goal.invariant-loop-number
invariant-loop-number g l = Reading l.kind l.count l.start l.number l.at l.before (g.S.Source.bytes l.initial.source) (g.S.Source.bytes l.source) (g.S.Source.faults l.initial.source) (g.S.Source.faults l.source) (g.S.Source.reached l.initial.source) (g.S.Source.reached l.source) l.vlrs.items
