use Rattle.std.proofs.Common.{◌≡◌, ◌≤◌, ◌++◌, length, take, drop}
use Rattle.stream_filters.specs.Masks.{marked}
use Rattle.stream_filters.proofs.masks.move_marked.Given as goal

-- those that were kept, and those that the rest of the mask names
abbrev pub invariant-loop-at : goal.invariant-loop-at
invariant-loop-at l = record {
  marked : take l.kept l.points ++ marked l.rest (drop l.at l.points) ≡ marked l.mask l.initial.points;
  few : l.kept ≤ l.at;
  size : length l.points ≡ length l.initial.points;
  end : l.at-end ≡ length l.initial.points;
}
