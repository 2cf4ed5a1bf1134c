use Rattle.std.proofs.Common.{◌≡◌, ℕ, ◌-◌, ◌<◌, ◌≤◌, length, get_or}
use Rattle.cloud_points.specs.Points.{zero_point}
use Rattle.packed_chunk.specs.Places.{ArePlaces}
use Rattle.packed_chunk.proofs.rows.PackedRows.reorder.Given as goal

abbrev pub invariant-loop-start : goal.invariant-loop-start
invariant-loop-start l = record {
  layout : l.self.layout ≡ l.fn.self.layout;
  many : length l.self.points ≡ length l.fn.self.points;
  inside : l.start ≤ length l.fn.self.points;
  places : ArePlaces (length l.fn.self.points) l.sources;
  same : (k : ℕ) → k < length l.fn.self.points → get_or l.self.points (get_or l.sources k 0) zero_point ≡ get_or l.fn.self.points (get_or l.fn.sources k 0) zero_point;
  done : (k : ℕ) → k < l.start → get_or l.sources k 0 ≡ k;
}

abbrev pub decreases-loop-start : goal.decreases-loop-start
decreases-loop-start l = length l.self.points - l.start
