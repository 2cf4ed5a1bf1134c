use Rattle.las_reader.proofs.Adding.{Added}
use Rattle.las_reader.proofs.records.add_fields.Given as goal

abbrev pub invariant-loop-k : goal.invariant-loop-k
invariant-loop-k l = Added l.header l.fields l.records l.initial.points l.at l.k l.points
