use Rattle.std.proofs.Common.{◌≡◌, drop}
use Rattle.packed_chunk.proofs.pieces.let_go.Given as goal

abbrev pub invariant-loop-piece : goal.invariant-loop-piece
invariant-loop-piece l = l.pieces.items ≡ drop l._piece l.initial.pieces.items
