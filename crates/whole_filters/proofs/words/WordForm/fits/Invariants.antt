use Rattle.std.proofs.Common.{ℕ, ◌<◌, get_or}
use Rattle.whole_filters.specs.Places.{HasRoom}
use Rattle.whole_filters.proofs.words.WordForm.fits.Given as goal

abbrev pub invariant-loop-key : goal.invariant-loop-key
invariant-loop-key l = (k : ℕ) → k < l.key-index → HasRoom l.self.least l.self.zeros l.self.bits (get_or l.keys k 0)
