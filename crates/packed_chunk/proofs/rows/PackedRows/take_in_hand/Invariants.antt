use Rattle.std.proofs.Common.{◌≡◌, ◌-◌, ◌≤◌, length}
use Rattle.packed_chunk.specs.Places.{AreInHand, unsettled}
use Rattle.packed_chunk.proofs.rows.PackedRows.take_in_hand.Given as goal

abbrev pub invariant-loop-place : goal.invariant-loop-place
invariant-loop-place l = record {
  begun : l.start ≤ l.place;
  room : length l.taken ≡ 64;
  free : l.free.items ≡ unsettled l.sources l.start (l.place - l.start);
  taken : AreInHand l.self.layout l.start l.place l.self.points l.sources l.taken;
}
