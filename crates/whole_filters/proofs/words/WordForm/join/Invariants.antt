use Rattle.std.proofs.Common.{◌≡◌, ℕ, ◌+◌, ◌*◌, ◌^◌, ◌<◌, ◌≤◌, get_or, length}
use Rattle.whole_filters.specs.Places.{counted}
use Rattle.whole_filters.proofs.words.WordForm.join.Given as goal

abbrev pub invariant-loop-place : goal.invariant-loop-place
invariant-loop-place l = record {
  each : length l.keys ≡ length l.fn.keys;
  done : (k : ℕ) → k < l.place → get_or l.keys k 0 ≡ counted l.self.least l.self.zeros (get_or l.fn.keys k 0) * 2 ^ l.self.bits + k;
  rest : (k : ℕ) → l.place ≤ k → get_or l.keys k 0 ≡ get_or l.fn.keys k 0;
}
