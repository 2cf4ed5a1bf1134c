use Rattle.std.proofs.Common.{rules, refl, ap, ◌∙◌, ◌++◌, pos, get_or, w64, FitsSigned}
use Rattle.std.proofs.lemmas.Int.{to_z-of_z}
use Rattle.std.specs.Int.{to_le_bytes}
use Rattle.ieee_words.specs.NearWord.{near_word}
use Rattle.las_header.specs.Written.{nano_bytes}
use Rattle.byte_numbers.proofs.Putting.{putting_more}
use Rattle.las_header.proofs.writing.put_offsets.Goals as goal

pub loop-offset-preserved : goal.loop-offset-preserved
loop-offset-preserved g c =
    let nano = get_or c.args.offsets.now c.loop-offset.offset-index (pos 0) in
    let fits : FitsSigned w64 nano = search rules in
    let word = c.near-word.ensures.value ∙ ap (λ n. near_word n 9) (to_z-of_z w64 nano fits) in
    let bytes = c.to_le_bytes.ensures ∙ ap (to_le_bytes w64) word in
    putting_more nano_bytes 8 c.args.offsets.now c.loop-offset.offset-index (pos 0) c.args.part.now.items c.loop-offset.part.items c.put.new.part.items
    c.loop-offset-test.true refl (c.put.ensures.items ∙ ap (λ l. c.loop-offset.part.items ++ l) bytes) c.loop-offset.invariant
