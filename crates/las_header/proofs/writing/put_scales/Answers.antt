use Rattle.std.proofs.Common.{refl, ap, ◌∙◌, ◌++◌, w64, FitsSigned, arith}
use Rattle.std.proofs.lemmas.Int.{ints, to_z-of_z}
use Rattle.std.specs.Int.{to_le_bytes}
use Rattle.ieee_words.specs.NearWord.{near_word}
use Rattle.las_header.specs.Written.{scale_bytes}
use Rattle.byte_numbers.proofs.Putting.{putting_more}
use Rattle.las_header.proofs.writing.put_scales.Goals as goal

pub loop-scale-preserved : goal.loop-scale-preserved
loop-scale-preserved g c =
    let item = c.scale-item.result in
    let low = c.nano.ensures.low in
    let high = c.nano.ensures.high in
    let fits : FitsSigned w64 c.nano.result = omega (arith, ints, low, high) in
    let nano = to_z-of_z w64 c.nano.result fits ∙ c.nano.ensures.value ∙ ap (λ s. s.nano) c.scale-item.is in
    let word = c.near-word.ensures.value ∙ ap (λ n. near_word n 9) nano in
    let bytes = c.to_le_bytes.ensures ∙ ap (to_le_bytes w64) word in
    putting_more scale_bytes 8 c.args.scales.now c.loop-scale.scale-index item c.args.part.now.items c.loop-scale.part.items c.put.new.part.items
    c.loop-scale-test.true refl (c.put.ensures.items ∙ ap (λ l. c.loop-scale.part.items ++ l) bytes) c.loop-scale.invariant
