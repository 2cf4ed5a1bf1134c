use Rattle.std.proofs.Common.{◌+◌, ap, ◌∙◌}
use Rattle.packed_chunk.specs.Rows.{size_of, first_dims, middle_dims, late_dims, extra_dims}
use Rattle.packed_chunk.specs.Unpacked.{numbers, with_first, with_middle, with_late, with_extras, unpacked_at}
use Rattle.packed_chunk.proofs.packing.Packing.unpack_at.Goals as goal

pub returns : goal.returns
unfolding unpacked_at
returns c =
    let layout = c.args.self.now.layout in
    let bytes = c.args.bytes.now in
    let second = c.take_first.ensures.at in
    let third = c.take_middle.ensures.at ∙ ap (λ n. n + size_of layout middle_dims) second in
    let fourth = c.take_late.ensures.at ∙ ap (λ n. n + size_of layout late_dims) third in
    let p1 = c.take_first.ensures.p ∙ ap (with_first (numbers layout first_dims c.args.at bytes)) c.zero-point.ensures in
    let p2 = c.take_middle.ensures.p ∙ (λ i. with_middle (numbers layout middle_dims (second i) bytes) (p1 i)) in
    let p3 = c.take_late.ensures.p ∙ (λ i. with_late (numbers layout late_dims (third i) bytes) (p2 i)) in
    c.take_extra.ensures.p ∙ (λ i. with_extras (numbers layout extra_dims (fourth i) bytes) (p3 i))

pub take_extra-requires-clause-zero : goal.take_extra-requires-clause-zero
unfolding with_first with_middle with_late
take_extra-requires-clause-zero c =
    ap (λ q. q.extra) c.take_late.ensures.p ∙ ap (λ q. q.extra) c.take_middle.ensures.p
    ∙ ap (λ q. q.extra) c.take_first.ensures.p ∙ ap (λ q. q.extra) c.zero-point.ensures
