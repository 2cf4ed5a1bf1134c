use Rattle.std.proofs.Common.{◌≡◌, take, length}
use Rattle.packed_chunk.specs.Places.{AreGoing}
use Rattle.packed_chunk.proofs.rows.PackedRows.take_sources.Given as goal

abbrev pub invariant-loop-turn : goal.invariant-loop-turn
invariant-loop-turn l = record {
  room : length l.going ≡ 64;
  going : AreGoing l.self.layout l.start l.end l.self.points l.sources l.taken (take l.turn l.free) l.going;
}
