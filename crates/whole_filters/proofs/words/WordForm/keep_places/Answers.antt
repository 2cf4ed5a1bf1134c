use Rattle.std.proofs.Common.{◌%◌, ◌^◌, ◌<◌, length, get_or, set, ap, ◌∙◌, arith}
use Rattle.std.proofs.lemmas.List.{get_or_default}
use Rattle.std.proofs.lemmas.List.Edits.{map_over_more}
use Rattle.whole_filters.proofs.Joining.{low_bits}
use Rattle.whole_filters.proofs.words.WordForm.keep_places.Goals as goal

pub loop-word-preserved : goal.loop-word-preserved
loop-word-preserved c =
    let words = c.loop-word.words in
    let k = c.loop-word.word-index in
    let bits = c.args.self.bits in
    let lt : k < length words = omega arith in
    ap (set words k) (low_bits (get_or words k 0) bits c.requires)
    ∙ map_over_more (λ w. w % 2 ^ bits) c.args.words.now words k (get_or words k 0) (omega arith) c.loop-word.invariant (get_or_default words k 0 (get_or words k 0) lt)
