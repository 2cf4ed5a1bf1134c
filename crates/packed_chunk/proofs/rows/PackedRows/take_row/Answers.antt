use Rattle.std.proofs.Common.{◌≡◌, length, ap, sym, ◌∙◌, arith}
use Rattle.std.proofs.lemmas.List.{take_at, take_all}
use Rattle.packed_chunk.specs.Rows.{row_size}
use Rattle.packed_chunk.specs.Unpacked.{unpacked_at}
use Rattle.packed_chunk.proofs.Fronts.{unpacked_front}
use Rattle.packed_chunk.proofs.rows.PackedRows.take_row.Goals as goal

pub returns : goal.returns
returns c =
    let layout = c.args.self.now.layout in
    let w = row_size layout in
    let r = c.copy_from_slice.new.self in
    let size : length r ≡ w = ap length c.copy_from_slice.ensures.after ∙ c.row.ensures.size in
    unpacked_front layout 0 w _ r (omega arith) (take_at r _ w size ∙ sym (take_all w r (omega (arith, size))))
    ∙ ap (unpacked_at layout 0) c.copy_from_slice.ensures.after ∙ c.row.ensures.point
