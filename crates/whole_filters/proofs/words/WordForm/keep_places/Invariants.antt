use Rattle.std.proofs.Common.{◌≡◌, ◌%◌, ◌^◌, ◌++◌, map, take, drop}
use Rattle.whole_filters.proofs.words.WordForm.keep_places.Given as goal

abbrev pub invariant-loop-word : goal.invariant-loop-word
invariant-loop-word l = l.words ≡ map (λ w. w % 2 ^ l.fn.self.bits) (take l.word-index l.fn.words) ++ drop l.word-index l.fn.words
