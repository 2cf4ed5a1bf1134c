use Rattle.std.proofs.Common.{◌≡◌, ℕ, ◌+◌, ◌<◌, [], ◌∷◌, ◌++◌, length, take, drop, get_or, ap, sym, ◌∙◌, arith, length-drop}
use Rattle.std.proofs.lemmas.List.{take_more, get_or-drop}
use Rattle.std.proofs.lemmas.Option.{get_or_from_slice_get}
use Rattle.packed_chunk.proofs.rows.PackedRows.copy_into.Goals as goal

pub loop-k-preserved : goal.loop-k-preserved
loop-k-preserved c =
    let points = c.args.self.now.points in
    let from = c.args.from in
    let k = c.loop-k.k in
    let p = c.get.result in
    let got : p ≡ get_or (drop from points) k p = sym (get_or_from_slice_get points (from + k) p p c.get.ensures.value) ∙ sym (get_or-drop from points k p) in
    let inside : k < length (drop from points) = omega (arith, c.requires.inside, c.loop-k-test.true, length-drop from points) in
    record {
      items = c.push.ensures.items ∙ (λ j. c.loop-k.invariant.items j ++ got j ∷ []) ∙ sym (take_more (drop from points) k p inside);
      many = c.push.ensures.len ∙ ap (λ (n : ℕ). n + 1) c.loop-k.invariant.many;
    }

pub returns : goal.returns
returns c =
    let all : c.loop-k.k ≡ c.args.count = omega arith in
    c.loop-k.invariant.items ∙ ap (λ n. take n (drop c.args.from c.args.self.now.points)) all
