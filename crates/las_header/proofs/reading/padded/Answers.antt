use Rattle.std.proofs.Common.{◌≡◌, ◌++◌, length, replicate, drop, ap, ◌∙◌, arith}
use Rattle.std.proofs.lemmas.List.{drop-replicate}
use Rattle.std.proofs.lemmas.Grind.{common_steps}
use Rattle.las_header.proofs.reading.padded.Goals as goal

pub returns : goal.returns
returns c =
    let front = c.args.front.now in
    let copied : c.copy_from_slice.new.self ≡ front = grind (arith, common_steps) in
    ap (λ l. l ++ drop (length front) (replicate 375 0)) copied ∙ ap (λ l. front ++ l) (drop-replicate (length front) 375 0)
