use Rattle.std.proofs.Common.{◌≡◌, ◌+◌, ◌-◌, ◌∷◌, [], ◌++◌, map, ap, sym, ◌∙◌, arith}
use Rattle.std.specs.List.{range_with_len}
use Rattle.std.proofs.lemmas.List.FromFn.{map-range_with_len_more}
use Rattle.cloud_gen.specs.Generated.{generated}
use Rattle.cloud_gen.proofs.file.generated_chunk.Goals as goal

pub loop-place-preserved : goal.loop-place-preserved
loop-place-preserved c =
    let start = c.args.start in
    let place = c.loop-place.place in
    let more : place + 1 - start ≡ place - start + 1 = omega (arith, c.loop-place.auto.place) in
    let last : start + (place - start) ≡ place = omega (arith, c.loop-place.auto.place) in
    record {
      items = c.push.ensures.items ∙ ap (λ l. l ++ c.gen_point.result ∷ []) c.loop-place.invariant.items
          ∙ ap (λ p. map (generated 1) (range_with_len start (place - start)) ++ p ∷ []) c.gen_point.ensures
          ∙ sym (map-range_with_len_more (generated 1) start (place - start) place last) ∙ ap (λ n. map (generated 1) (range_with_len start n)) (sym more);
      count = omega (arith, c.push.ensures.len, c.loop-place.invariant.count, more);
    }
