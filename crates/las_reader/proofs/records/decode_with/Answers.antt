use Rattle.std.proofs.Common.{◌≡◌, ◌+◌, ◌++◌, take, length, ap, sym, ◌∙◌, rules}
use Rattle.std.proofs.lemmas.List.{nil_from_length}
use Rattle.arrayvec.proofs.ArrayVecLemmas.{items-with_items}
use Rattle.las_reader.specs.Records.{out_from, point_of, point_with, points_from}
use Rattle.las_reader.proofs.Outs.{plain_out}
use Rattle.las_reader.proofs.Pieces.{front_stays, plain_point}
use Rattle.las_reader.proofs.records.decode_with.Goals as goal

pub returns-then-is_empty-clause-items : goal.returns-then-is_empty-clause-items
returns-then-is_empty-clause-items c =
    let none = nil_from_length c.args.fields.now (search rules) in
    let header = c.args.header.now in
    c.decode_from.ensures.items
    ∙ ap (λ read. take c.args.at c.args.into.now.items ++ points_from read header.record_length 0 c.args.count c.args.records.now) (sym (ap (point_with header) none ∙ plain_point header))

pub returns-then-is_empty-clause-out : goal.returns-then-is_empty-clause-out
returns-then-is_empty-clause-out c =
    let none = nil_from_length c.args.fields.now (search rules) in
    let size = c.args.header.now.record_length in
    ap (λ fields. out_from fields size 0 c.args.count c.args.records.now) none ∙ plain_out size 0 c.args.count c.args.records.now

pub add_fields-requires-clause-decoded : goal.add_fields-requires-clause-decoded
add_fields-requires-clause-decoded c =
    let decoded = points_from (point_of c.args.header.now) c.args.header.now.record_length 0 c.args.count c.args.records.now in
    let stays = front_stays c.args.at c.args.count c.args.into.now.items c.decode_from.new.into.items decoded c.requires.place c.decode_from.ensures.items in
    ap (take (c.args.at + c.args.count)) c.as_mut_slice.ensures.value ∙ c.decode_from.ensures.items
    ∙ ap (λ l. l ++ decoded) (sym (ap (take c.args.at) c.as_mut_slice.ensures.value ∙ stays))

pub returns-clause-items : goal.returns-clause-items
returns-clause-items c =
    let decoded = points_from (point_of c.args.header.now) c.args.header.now.record_length 0 c.args.count c.args.records.now in
    let stays = front_stays c.args.at c.args.count c.args.into.now.items c.decode_from.new.into.items decoded c.requires.place c.decode_from.ensures.items in
    let same : length c.add_fields.new.points ≡ length c.decode_from.new.into.items = c.add_fields.auto.points ∙ ap length c.as_mut_slice.ensures.value in
    let count = c.add_fields.result.count in
    ap (take (c.args.at + count)) (items-with_items c.decode_from.new.into c.add_fields.new.points same) ∙ c.add_fields.ensures.points
    ∙ ap (λ l. l ++ points_from (point_with c.args.header.now c.args.fields.now) c.args.header.now.record_length 0 count c.args.records.now) (ap (take c.args.at) c.as_mut_slice.ensures.value ∙ stays)
