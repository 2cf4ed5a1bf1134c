use Rattle.std.proofs.Common.{◌≡◌, ◌+◌, ◌++◌, take, length, ap, sym, ◌∙◌}
use Rattle.std.proofs.lemmas.List.{take-take}
use Rattle.arrayvec.proofs.ArrayVecLemmas.{items-with_items}
use Rattle.las_reader.specs.Records.{point_of, points_from}
use Rattle.las_reader.proofs.records.decode_from.Goals as goal

pub returns-clause-items : goal.returns-clause-items
returns-clause-items c =
    let grown = c.grow.new.into.items in
    let same : length c.decode_over.new.points ≡ length grown = c.decode_over.auto.points ∙ ap length c.as_mut_slice.ensures.value in
    let front : take c.args.at grown ≡ take c.args.at c.args.into.now.items =
    sym (take-take c.args.at (length c.args.into.now.items) grown c.requires.place) ∙ ap (take c.args.at) c.grow.ensures.front in
    ap (take (c.args.at + c.args.count)) (items-with_items c.grow.new.into c.decode_over.new.points same) ∙ c.decode_over.ensures
    ∙ ap (λ l. l ++ points_from (point_of c.args.header.now) c.args.header.now.record_length 0 c.args.count c.args.records.now) (ap (take c.args.at) c.as_mut_slice.ensures.value ∙ front)
