use Rattle.std.proofs.Common.{set, take, ap, ◌∙◌, arith}
use Rattle.cloud_points.specs.declared.point.Point.{Point}
use Rattle.packed_chunk.specs.Held.{Held}
use Rattle.packed_chunk.specs.Unpacked.{unpacked_at}
use Rattle.packed_chunk.proofs.Moving.{row_taken}
use Rattle.packed_chunk.proofs.rows.PackedRows.put_row.Goals as goal

pub returns : goal.returns
returns c =
    let layout = c.args.self.now.layout in
    let with_point : Point → Held = λ p. record { layout = layout; points = set c.args.self.now.points c.args.place p } in
    c.put_over.ensures
    ∙ ap with_point (ap (λ w. unpacked_at layout 0 (take w c.args.hand.now)) c.width-width.ensures.value
    ∙ row_taken layout 0 c.args.hand.now (omega (arith, c.told-hand, c.width-width.ensures.value, c.width-width.ensures.small)))
