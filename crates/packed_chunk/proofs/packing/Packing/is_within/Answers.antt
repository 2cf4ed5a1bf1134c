use Rattle.std.proofs.Common.{◌≡◌, bit_or, arith}
use Rattle.std.proofs.lemmas.Nat.{le_or_l, le_or_r}
use Rattle.packed_chunk.proofs.Wider.{zero_within}
use Rattle.packed_chunk.proofs.packing.Packing.is_within.Goals as goal

pub returns : goal.returns
returns c = λ yes.
    let first = c.first_outside.result in
    let middle = c.middle_outside.result in
    let late = c.late_outside.result in
    let extra = c.extra_outside.result in
    let none = c.if-found-ne0.false in
    let left : bit_or (bit_or first middle) late ≡ 0 = omega (arith, none, le_or_l (bit_or (bit_or first middle) late) extra) in
    let lefter : bit_or first middle ≡ 0 = omega (arith, left, le_or_l (bit_or first middle) late) in
    zero_within c.args.self.now.layout c.args.p.now c.known_numbers.ensures c.known_extras.ensures
    (c.first_outside.ensures (omega (arith, lefter, le_or_l first middle)))
    (c.middle_outside.ensures (omega (arith, lefter, le_or_r first middle)))
    (c.late_outside.ensures (omega (arith, left, le_or_r (bit_or first middle) late)))
    (c.extra_outside.ensures (omega (arith, none, le_or_r (bit_or (bit_or first middle) late) extra)))
