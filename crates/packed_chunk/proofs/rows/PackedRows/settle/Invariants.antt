use Rattle.std.proofs.Common.{◌≡◌, ◌+◌, ◌++◌, ◌≤◌, length, drop}
use Rattle.packed_chunk.specs.Places.{AreInHand}
use Rattle.packed_chunk.proofs.Cycles.{count_from, Walks, Carries}
use Rattle.packed_chunk.proofs.rows.PackedRows.settle.Given as goal

-- some places are free
abbrev pub invariant-loop-free : goal.invariant-loop-free
invariant-loop-free l = record {
  walks : Walks (length l.fn.self.points) l.start l.end l.fn.sources l.sources l.free.items;
  carries : Carries (length l.fn.self.points) l.fn.sources l.sources l.free.items l.fn.self.points l.self.points;
  layout : l.self.layout ≡ l.fn.self.layout;
  taken : AreInHand l.fn.self.layout l.start l.end l.fn.self.points l.fn.sources l.hands.taken;
}

abbrev pub decreases-loop-free : goal.decreases-loop-free
decreases-loop-free l = count_from 0 l.sources

-- those that come next, and the rest of these
abbrev pub invariant-loop-turn : goal.invariant-loop-turn
invariant-loop-turn l = record {
  walks : Walks (length l.fn.self.points) l.start l.end l.fn.sources l.sources (l.next.items ++ drop l.turn l.free.items);
  carries : Carries (length l.fn.self.points) l.fn.sources l.sources (l.next.items ++ drop l.turn l.free.items) l.fn.self.points l.self.points;
  layout : l.self.layout ≡ l.fn.self.layout;
  few : length l.next.items ≤ l.turn;
  fewer : count_from 0 l.sources + l.turn ≡ count_from 0 l.initial.sources;
}
