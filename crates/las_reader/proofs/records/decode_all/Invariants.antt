use Rattle.std.proofs.Common.{◌+◌, take, length}
use Rattle.las_reader.proofs.Pieces.{Decoded}
use Rattle.las_reader.proofs.records.decode_all.Given as goal

abbrev pub invariant-loop-k : goal.invariant-loop-k
invariant-loop-k l = Decoded l.header l.k l.records (take l.at l.initial.points) (take (l.at + l.k) l.points) l.at (length l.points)
