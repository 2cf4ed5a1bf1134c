use Rattle.packed_chunk.specs.Rows.{first_dims, middle_dims, late_dims}
use Rattle.packed_chunk.proofs.Wider.{zero_within, zero_wider}
use Rattle.packed_chunk.proofs.widening.widened.Goals as goal

pub returns-clause-wider : goal.returns-clause-wider
returns-clause-wider c = λ dim lacks.
    c.widen_first.ensures.wider dim (c.widen_middle.ensures.wider dim (c.widen_late.ensures.wider dim (c.widen_extra.ensures.wider dim lacks)))

pub returns-clause-within : goal.returns-clause-within
returns-clause-within c =
    let p = c.args.p.now in
    let wide = c.widen_extra.new.layout in
    zero_within wide p c.known_numbers.ensures c.known_extras.ensures
    (zero_wider c.widen_first.new.layout wide p first_dims
    (λ dim lacks. c.widen_middle.ensures.wider dim (c.widen_late.ensures.wider dim (c.widen_extra.ensures.wider dim lacks))) c.widen_first.ensures.zero)
    (zero_wider c.widen_middle.new.layout wide p middle_dims
    (λ dim lacks. c.widen_late.ensures.wider dim (c.widen_extra.ensures.wider dim lacks)) c.widen_middle.ensures.zero)
    (zero_wider c.widen_late.new.layout wide p late_dims c.widen_extra.ensures.wider c.widen_late.ensures.zero)
    c.widen_extra.ensures.zero
