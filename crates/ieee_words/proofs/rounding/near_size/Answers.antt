use Rattle.std.proofs.Common.{arith, ◌≡◌, ℕ, ◌+◌, ◌-◌, ◌*◌, ◌%◌, ◌^◌, ◌≤◌, inl, inr}
use Rattle.ieee_words.proofs.Bits.{half_of, half_shifted, kept_whole}
use Rattle.ieee_words.proofs.Rounded.{cut_below_half, cut_above_half, cut_is_half}
use Rattle.ieee_words.proofs.rounding.near_size.Goals as goal

word : (d s : ℕ) → s ≤ 126 → 63 ≤ s → d ≤ 74 → (d + 1074 - s) * 2 ^ 52 % 2 ^ 64 ≡ (d + 1074 - s) * 2 ^ 52
word d s h k l = kept_whole ((d + 1074 - s) * 2 ^ 52) (2 ^ 64) (omega arith)

pub returns-then-lead-half : goal.returns-then-lead-half
returns-then-lead-half c =
    let w = word c.leading_bits-lead.result.down c.divided-scaled.result.up c.divided-scaled.ensures.up_high c.divided-scaled.ensures.up_low c.leading_bits-lead.ensures.down_high in
    let h = half_shifted c.leading_bits-lead.result.down c.leading_bits-lead.ensures.down_high in
    rw w (cut_below_half c.args.size (10 ^ c.args.k) c.divided-scaled.result.up c.divided-scaled.result.quotient c.divided-scaled.result.rest c.leading_bits-lead.result.kept c.leading_bits-lead.result.down c.leading_bits-lead.result.cut (2 ^ (c.leading_bits-lead.result.down - 1))
    (rw (← c.divisor_of_ten.ensures) c.divided-scaled.ensures.value) (rw (← c.divisor_of_ten.ensures) c.divided-scaled.ensures.rest)
    c.leading_bits-lead.ensures.value c.leading_bits-lead.ensures.cut c.leading_bits-lead.ensures.low c.leading_bits-lead.ensures.high
    c.divided-scaled.ensures.up_high (omega arith)
    (half_of c.leading_bits-lead.result.down (omega arith))
    (rw h at c.if-lead-half.true))

pub returns-then-lead-half-2 : goal.returns-then-lead-half-2
returns-then-lead-half-2 c =
    let w = word c.leading_bits-lead.result.down c.divided-scaled.result.up c.divided-scaled.ensures.up_high c.divided-scaled.ensures.up_low c.leading_bits-lead.ensures.down_high in
    let h = half_shifted c.leading_bits-lead.result.down c.leading_bits-lead.ensures.down_high in
    rw w (cut_above_half c.args.size (10 ^ c.args.k) c.divided-scaled.result.up c.divided-scaled.result.quotient c.divided-scaled.result.rest c.leading_bits-lead.result.kept c.leading_bits-lead.result.down c.leading_bits-lead.result.cut (2 ^ (c.leading_bits-lead.result.down - 1))
    (rw (← c.divisor_of_ten.ensures) c.divided-scaled.ensures.value) (rw (← c.divisor_of_ten.ensures) c.divided-scaled.ensures.rest)
    c.leading_bits-lead.ensures.value c.leading_bits-lead.ensures.cut c.leading_bits-lead.ensures.low c.leading_bits-lead.ensures.high
    c.divided-scaled.ensures.up_high (omega arith)
    (half_of c.leading_bits-lead.result.down (omega arith))
    (elim c.then-lead-half-2.either [ inl x ↦ inl (omega arith) | inr y ↦ inr (omega arith, omega arith) ]))

pub returns : goal.returns
returns c =
    let w = word c.leading_bits-lead.result.down c.divided-scaled.result.up c.divided-scaled.ensures.up_high c.divided-scaled.ensures.up_low c.leading_bits-lead.ensures.down_high in
    let h = half_shifted c.leading_bits-lead.result.down c.leading_bits-lead.ensures.down_high in
    rw w (cut_is_half c.args.size (10 ^ c.args.k) c.divided-scaled.result.up c.divided-scaled.result.quotient c.divided-scaled.result.rest c.leading_bits-lead.result.kept c.leading_bits-lead.result.down c.leading_bits-lead.result.cut (2 ^ (c.leading_bits-lead.result.down - 1))
    (rw (← c.divisor_of_ten.ensures) c.divided-scaled.ensures.value) (rw (← c.divisor_of_ten.ensures) c.divided-scaled.ensures.rest)
    c.leading_bits-lead.ensures.value c.leading_bits-lead.ensures.cut c.leading_bits-lead.ensures.low c.leading_bits-lead.ensures.high
    c.divided-scaled.ensures.up_high (omega arith)
    (half_of c.leading_bits-lead.result.down (omega arith))
    (omega arith) (omega arith))
